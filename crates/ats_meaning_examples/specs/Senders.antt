use Rattle.std.specs.Prelude.{◌≡◌, ◌≢◌, ◌↔◌, ℕ, ◌+◌, ◌*◌, ◌<◌, ◌≤◌, Bool, true, false, List, [], length, All, AllPairs}
use Rattle.std.specs.Prelude.{slice_index_or, Option, Some, None}
use Rattle.ats_num.specs.declared.time.Ps.{Ps}
use Rattle.ats_clock.specs.Rates.{committed, output_of, scheduler_for}
use Rattle.ats_topology.specs.Node.{clock_of, is_station}
use Rattle.ats_topology.specs.Port.{port_at}
use Rattle.ats_topology.specs.Topology.{DeclaredTopology, node_at}
use Rattle.ats_topology.specs.Walks.{IsLeastWalk, NoWalk}
use Rattle.ats_streams.specs.Branches.{AreBranches, routes_of}
use Rattle.ats_streams.specs.Rules.{KeepsRules}
use Rattle.ats_network.specs.Bridges.{IsBridgeAt, MeetAtBridge}
use Rattle.ats_network.specs.Class.{class_at, port_before}
use Rattle.ats_network.specs.Laws.{AreDeclared, AreNoLess, IsShortest}
use Rattle.ats_network.specs.Network.{DeclaredNetwork, HasOneListener}
use Rattle.ats_network.specs.Path.{IsTree, IsValidPath}
use Rattle.ats_network.specs.Rates.{clock_behind, committed_at, scheduled_at, talker_clock}
use Rattle.ats_network.specs.Sender.{Sender, flow_sender, stream_sender}
use Rattle.ats_network.specs.SenderView.{deadline_of, is_stream, sender_of}
use Rattle.ats_network.specs.Senders.{AllNeighbours, HasPath, IsSender}
use Rattle.ats_network.specs.Shortest.{shortest_of}
use Rattle.ats_network.specs.declared.sender.Sender.{Sender as SenderView}
use Rattle.ats_network.specs.declared.sender.Sender.TheVariants.{Stream, Flow}
use Rattle.ats_streams.specs.Stream.{DeclaredStream}
use Rattle.ats_route_law.specs.Laws.{GoHopByHop}
use Rattle.ats_meaning_examples.specs.Kept.{MayHave}

-- What laws conclude of the senders of a network, part by part, both ways: none of these words says less.

-- the node with a number is there, and no station
abbrev pub IsThereAndBridge : DeclaredTopology → ℕ → Type 0
IsThereAndBridge topology node =
    (node < length topology.nodes) × (is_station (node_at topology.nodes node).kind ≡ false)

-- the ports of a path meet at bridges where each but the last leads to one that the next leaves: each two neighbours
-- do, the last two as well
pub record MeetingIsMeant : Type 0 where
  pub bridge : (topology : DeclaredTopology) (node : ℕ) → IsBridgeAt topology node ↔ IsThereAndBridge topology node
  pub meet : (topology : DeclaredTopology) (p q : ℕ) → MeetAtBridge topology p q
      ↔ (IsThereAndBridge topology (port_at topology.ports p).to
      × ((port_at topology.ports q).from ≡ (port_at topology.ports p).to))
  pub neighbours : (topology : DeclaredTopology) (path : List ℕ) → AllNeighbours (MeetAtBridge topology) path
      ↔ ((n : ℕ) → n + 1 < length path
      → MeetAtBridge topology (slice_index_or path n 0) (slice_index_or path (n + 1) 0))

-- all that a sender keeps
abbrev pub KeepingIsMeant : Type 0
KeepingIsMeant = (topology : DeclaredTopology) (s : Sender) → IsSender topology s
    ↔ (AreBranches s.ports s.branches
    × All (λ route. (1 ≤ length route) × (length route ≤ 64)) (routes_of s.ports s.branches)
    × IsTree topology s.ports s.branches
    × All (λ p. p < length topology.ports) s.ports × AllPairs (λ p q. p ≢ q) s.ports
    × All (IsValidPath topology) (routes_of s.ports s.branches)
    × All (AllNeighbours (MeetAtBridge topology)) (routes_of s.ports s.branches)
    × (length s.classes ≡ length s.ports) × All (λ class. class ≤ 7) s.classes
    × (64 ≤ s.min_octets) × (s.min_octets ≤ s.max_octets) × (s.max_octets ≤ 2000)
    × ((port : ℕ) → 1 ≤ class_at s port → KeepsRules s.rate s.burst_bits s.min_octets s.max_octets)
    × ((port : ℕ) → 1 ≤ class_at s port
    → MayHave (committed_at topology port s) × MayHave (scheduled_at topology port s)))

-- and one with one listener besides; and which networks have such streams alone
pub record PathsAreMeant : Type 0 where
  pub path : (topology : DeclaredTopology) (s : Sender) → HasPath topology s
      ↔ ((s.branches ≡ []) × (1 ≤ length s.ports) × (length s.ports ≤ 64) × IsValidPath topology s.ports
      × AllNeighbours (MeetAtBridge topology) s.ports)
  pub one_listener : (network : DeclaredNetwork) → HasOneListener network
      ↔ All (λ (s : DeclaredStream). s.branches ≡ []) network.streams
  pub shortest : (topology : DeclaredTopology) (a b : ℕ) → IsShortest topology a b
      ↔ (((walk : List ℕ) → shortest_of topology a b ≡ Some walk → IsLeastWalk topology.ports a b walk)
      × (shortest_of topology a b ≡ None → NoWalk topology.ports a b))

-- rates and bursts at a port: no less than what is declared, and just this; how they go from port to port; and what a
-- scheduler has behind each port, the last one too
pub record RatesAreMeant : Type 0 where
  pub no_less : (topology : DeclaredTopology) (s : Sender) (port : ℕ) → AreNoLess topology s port
      ↔ ((s.rate ≤ (committed_at topology port s).rate) × (s.burst_bits ≤ (committed_at topology port s).burst_bits)
      × ((committed_at topology port s).rate ≤ (scheduled_at topology port s).rate)
      × ((committed_at topology port s).burst_bits ≤ (scheduled_at topology port s).burst_bits))
  pub declared : (topology : DeclaredTopology) (s : Sender) (port : ℕ) → AreDeclared topology s port
      ↔ ((committed_at topology port s ≡ record { rate = s.rate; burst_bits = s.burst_bits })
      × (scheduled_at topology port s ≡ record { rate = s.rate; burst_bits = s.burst_bits }))
  pub hop_by_hop : (topology : DeclaredTopology) (s : Sender) → GoHopByHop topology s
      ↔ (((port : ℕ) → port_before s port ≡ None
      → committed_at topology port s ≡ output_of (talker_clock topology s) (committed s.rate s.burst_bits))
      × ((port before : ℕ) → port_before s port ≡ Some before
      → committed_at topology port s ≡ output_of (clock_behind topology before) (scheduled_at topology before s)))
  pub scheduled : (topology : DeclaredTopology) (s : Sender) (port : ℕ) → scheduled_at topology port s
      ≡ scheduler_for (clock_of (node_at topology.nodes (port_at topology.ports port).to).kind)
      (committed_at topology port s)
  pub talker : (topology : DeclaredTopology) (s : Sender) → talker_clock topology s
      ≡ clock_of (node_at topology.nodes (port_at topology.ports (slice_index_or s.ports 0 0)).from).kind

-- a stream's deadline in picoseconds; a flow has none
abbrev pub deadline_in_ps : SenderView → Option Ps
deadline_in_ps (Stream s) = Some (record { 0 = 1000 * s.now.deadline_ns })
deadline_in_ps (Flow f) = None

-- which it is, and what it is as a sender
abbrev pub is_of_streams : SenderView → Bool
is_of_streams (Stream s) = true
is_of_streams (Flow f) = false

abbrev pub as_sender : SenderView → Sender
as_sender (Stream s) = stream_sender s.now
as_sender (Flow f) = flow_sender f.now

-- what is seen of a stream or a flow
pub record SeeingIsMeant : Type 0 where
  pub deadline : (s : SenderView) → deadline_of s ≡ deadline_in_ps s
  pub stream : (s : SenderView) → is_stream s ≡ is_of_streams s
  pub sender : (s : SenderView) → sender_of s ≡ as_sender s

pub record SendersAreMeant : Type 0 where
  pub meeting : MeetingIsMeant
  pub keeping : KeepingIsMeant
  pub paths : PathsAreMeant
  pub rates : RatesAreMeant
  pub seeing : SeeingIsMeant
