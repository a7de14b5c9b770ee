use Rattle.std.specs.Prelude.{◌≡◌, ◌↔◌, ℕ, ◌+◌, ◌||◌, IsTrue, false, nat_le, nat_lt, if◌then◌else◌, List, [], ◌∷◌}
use Rattle.std.specs.Prelude.{◌++◌, length, sum_by, Some, None}
use Rattle.std.specs.List.{list_any}
use Rattle.std.specs.Str.{bytes_eq}
use Rattle.ats_streams.specs.Flow.{DeclaredFlow}
use Rattle.ats_streams.specs.Stream.{DeclaredStream}
use Rattle.ats_topology.specs.Topology.{DeclaredTopology}
use Rattle.ats_network.specs.Network.{DeclaredNetwork, network_within, ports_together, senders_of}
use Rattle.ats_network.specs.Pushes.{flow_push_fault, has_identity, is_beyond, is_identity_taken, is_name_taken}
use Rattle.ats_network.specs.Pushes.{stream_push_fault, with_flow, with_stream}
use Rattle.ats_network.specs.Rates.{is_overrated}
use Rattle.ats_network.specs.Sender.{Sender, stream_sender}
use Rattle.ats_network.specs.declared.fault.PushFault.TheVariants.{IdentityTaken, Limit, NameTaken}

-- a network has the topology, the limit, the streams and the flows that it is made of, and one stream or flow more
-- comes behind the others of its kind and leaves all else
pub record NetworksAreKnown : Type 0 where
  pub made : (topology : DeclaredTopology) (most : ℕ) (streams : List DeclaredStream) (flows : List DeclaredFlow)
      → network_within topology most streams flows
      ≡ record { topology = topology; most_ports = most; streams = streams; flows = flows }
  pub stream : (network : DeclaredNetwork) (s : DeclaredStream) → with_stream network s
      ≡ record network { streams = network.streams ++ s ∷ [] }
  pub flow : (network : DeclaredNetwork) (f : DeclaredFlow) → with_flow network f
      ≡ record network { flows = network.flows ++ f ∷ [] }

-- a name is taken where a stream or a flow has it, byte by byte; an identity where a stream declares both the address
-- and the VLAN identifier; and where none is declared, none is taken
pub record TakenAreKnown : Type 0 where
  pub name : (network : DeclaredNetwork) (name : List ℕ) → is_name_taken network name
      ≡ list_any (λ (s : Sender). bytes_eq name s.name) (senders_of network)
  pub has : (identity : ℕ × ℕ) (s : DeclaredStream) → IsTrue (has_identity identity s)
      ↔ (s.identity ≡ Some identity)
  pub none : (streams : List DeclaredStream) → is_identity_taken streams None ≡ false
  pub identity : (streams : List DeclaredStream) (identity : ℕ × ℕ)
      → is_identity_taken streams (Some identity) ≡ list_any (has_identity identity) streams

-- streams have together the ports of each. A stream is not added where its name is taken, or else its identity, or else
-- where 4096 streams are there, or all would have more than 65536 ports together, or it is over the limits of a
-- scheduler; a flow is not where its name is taken, or else where 4096 flows are there
pub record FaultsAreKnown : Type 0 where
  pub together : (streams : List DeclaredStream) → ports_together streams
      ≡ sum_by (λ (x : DeclaredStream). length x.ports) streams
  pub beyond : (network : DeclaredNetwork) (s : DeclaredStream) → is_beyond network s
      ≡ ((nat_le 4096 (length network.streams)
      || nat_lt 65536 (ports_together network.streams + length s.ports))
      || is_overrated network.topology (stream_sender s))
  pub stream : (network : DeclaredNetwork) (s : DeclaredStream) → stream_push_fault network s
      ≡ (if is_name_taken network s.name then Some NameTaken
      else if is_identity_taken network.streams s.identity then Some IdentityTaken
      else if is_beyond network s then Some Limit
      else None)
  pub flow : (network : DeclaredNetwork) (f : DeclaredFlow) → flow_push_fault network f
      ≡ (if is_name_taken network f.name then Some NameTaken
      else if nat_le 4096 (length network.flows) then Some Limit
      else None)

pub record EntriesAreKnown : Type 0 where
  pub networks : NetworksAreKnown
  pub taken : TakenAreKnown
  pub faults : FaultsAreKnown
