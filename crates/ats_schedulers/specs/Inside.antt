use Rattle.std.specs.Prelude.{◌≡◌, ◌≢◌, ℕ, ◌<◌, ◌≤◌, List, length, map, All, AllPairs}
use Rattle.std.specs.List.{flat_map, range_with_len}
use Rattle.ats_group.specs.declared.member.Member.{Member}
use Rattle.ats_group.specs.declared.member.TheConstants.{MAX_RESIDENCE_NS}
use Rattle.ats_streams.specs.Stream.{DeclaredStream}
use Rattle.ats_topology.specs.Topology.{DeclaredTopology}
use Rattle.ats_network.specs.Network.{DeclaredNetwork, IsNetwork}
use Rattle.ats_network.specs.Rates.{HasRates}
use Rattle.ats_schedulers.specs.Schedulers.{first_of, residences_of, stream_members}

-- the ports of a stream are different, none is past the most that a network has, and its rates and bursts there are
-- within the limits of a scheduler
pub record IsListable (topology : DeclaredTopology) (stream : DeclaredStream) : Type 0 where
  pub apart : AllPairs (λ p q. p ≢ q) stream.ports
  pub few : All (λ p. p < 4096) stream.ports
  pub rates : HasRates topology stream

-- the place of each stream's first scheduler
abbrev pub firsts_of : DeclaredTopology → List DeclaredStream → List ℕ
firsts_of topology streams = map (first_of topology streams) (range_with_len 0 (length streams))

-- the schedulers of streams, and those places
pub record AreListed (topology : DeclaredTopology) (streams : List DeclaredStream) (members : List Member)
    (firsts : List ℕ) : Type 0 where
  pub all : members ≡ flat_map (stream_members topology) streams
  pub places : firsts ≡ firsts_of topology streams

-- the lists that are kept for a network
pub record AreSchedulers (network : DeclaredNetwork) (residences : List ℕ) (members : List Member)
    (firsts : List ℕ) : Type 0 where
  pub rules : IsNetwork network
  pub groups : residences ≡ residences_of network
  pub most : All (λ (r : ℕ). r ≤ MAX_RESIDENCE_NS) residences
  pub listed : AreListed network.topology network.streams members firsts
