use Rattle.std.specs.Prelude.{◌≡◌, ◌↔◌, ℕ, ◌<◌, ◌≤◌, List, length, map, slice_index_or, Contains}
use Rattle.ats_topology.specs.Port.{port_at}
use Rattle.ats_bucket.specs.Conforming.{Conforms}
use Rattle.ats_network.specs.Network.{DeclaredNetwork, senders_of}
use Rattle.ats_network.specs.Senders.{sender_at}
use Rattle.ats_trace.specs.Talker.{IsDeclaredSize, frames_of, talker_of}
use Rattle.ats_trace.specs.declared.journey.Release.{Release}
use Rattle.ats_conform.specs.Releases.{AllKeepBuckets, release_at}

-- a sender begins at the node that its first port leaves, and one without ports at node 0; and a release has a declared
-- size where it is within those of its sender, both ends included
pub record BeginningsAreTraced : Type 0 where
  pub talker : (network : DeclaredNetwork) (i : ℕ) → talker_of network i
      ≡ slice_index_or (map (λ p. (port_at network.topology.ports p).from) (sender_at network i).ports) 0 0
  pub size : (network : DeclaredNetwork) (r : Release) → IsDeclaredSize network r
      ↔ (((sender_at network r.sender).min_octets ≤ r.octets)
      × (r.octets ≤ (sender_at network r.sender).max_octets))

-- all nodes keep their buckets where, wherever they begin, the frames of each stream conform to its rate and burst, and
-- each release of a stream or flow has a size that this declares; a release of no sender is not asked. A number without
-- a release stands for one at time 0, of sender 0 and without octets
pub record KeepingIsTraced : Type 0 where
  pub all : (network : DeclaredNetwork) (releases : List Release) → AllKeepBuckets network releases
      ↔ (((i : ℕ) → i < length network.streams
      → Conforms (sender_at network i).rate (sender_at network i).burst_bits (frames_of i releases))
      × ((r : Release) → Contains releases r → r.sender < length (senders_of network)
      → ((sender_at network r.sender).min_octets ≤ r.octets)
      × (r.octets ≤ (sender_at network r.sender).max_octets)))
  pub release : (releases : List Release) (n : ℕ) → release_at releases n
      ≡ slice_index_or releases n (record { at = record { 0 = 0 }; sender = 0; octets = 0 })

pub record TalkersAreTraced : Type 0 where
  pub beginnings : BeginningsAreTraced
  pub keeping : KeepingIsTraced
