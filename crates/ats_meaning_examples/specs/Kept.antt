use Rattle.std.specs.Prelude.{◌≡◌, ◌≢◌, ◌↔◌, ◌⊎◌, ℕ, ◌+◌, ◌≤◌, ◌<◌, List, length, sum_by, All, AllPairs, IsTrue}
use Rattle.std.specs.Prelude.{IsSome, slice_index_or}
use Rattle.ats_num.specs.Places.{place_of}
use Rattle.ats_num.specs.Wire.{bits_of}
use Rattle.ats_clock.specs.Clock.{IsClock}
use Rattle.ats_clock.specs.declared.committed.Committed.{Committed}
use Rattle.ats_topology.specs.Node.{AreApart, clock_of, greatest_processing_of, is_station, least_processing_of}
use Rattle.ats_topology.specs.Node.{names_of, residence_of}
use Rattle.ats_topology.specs.Rates.{ps_per_bit_of}
use Rattle.ats_topology.specs.Topology.{DeclaredTopology, HasOneLink, IsLink, IsNode, IsTopology, ports_of}
use Rattle.ats_topology.specs.Walks.{IsWalk}
use Rattle.ats_topology.specs.declared.link.Link.{Link}
use Rattle.ats_topology.specs.declared.node.Node.{Node}
use Rattle.ats_streams.specs.Branches.{AreBranches, leg_at, legs_of, no_branch, routes_of}
use Rattle.ats_streams.specs.Flow.{DeclaredFlow, IsFlow}
use Rattle.ats_streams.specs.Rules.{KeepsRules}
use Rattle.ats_streams.specs.Stream.{DeclaredStream, IsDeadline, IsStream, MayIdentify}
use Rattle.ats_streams.specs.declared.branch.Branch.{Branch}
use Rattle.ats_network.specs.Network.{AreIdentified, DeclaredNetwork, IsNetwork, names_of as sender_names, senders_of}
use Rattle.ats_network.specs.Path.{IsBranch, IsTree, IsValidPath, node_of_branch, nodes_along}
use Rattle.ats_network.specs.Rates.{HasRates, committed_at, scheduled_at}
use Rattle.ats_network.specs.Sender.{Sender, stream_sender}

-- What networks, their streams, flows and topologies keep, part by part, both ways: nothing else is asked of them.

-- rate, sizes and burst of a stream
abbrev pub RulesAreKept : Type 0
RulesAreKept = (rate burst_bits min_octets max_octets : ℕ) → KeepsRules rate burst_bits min_octets max_octets
    ↔ ((1 ≤ rate) × (rate ≤ 100000000000) × (64 ≤ min_octets) × (min_octets ≤ max_octets) × (max_octets ≤ 2000)
    × (bits_of max_octets ≤ burst_bits) × (burst_bits ≤ 1000000000))

-- all of a stream
abbrev pub StreamsAreKept : Type 0
StreamsAreKept = (s : DeclaredStream) → IsStream s
    ↔ (All (λ class. (1 ≤ class) × (class ≤ 7)) s.classes × (length s.classes ≡ length s.ports)
    × KeepsRules s.rate s.burst_bits s.min_octets s.max_octets × AreBranches s.ports s.branches
    × All (λ route. (1 ≤ length route) × (length route ≤ 64)) (routes_of s.ports s.branches)
    × IsDeadline s.deadline_ns × MayIdentify s.identity)

abbrev pub FlowsAreKept : Type 0
FlowsAreKept = (f : DeclaredFlow) → IsFlow f
    ↔ ((64 ≤ f.max_octets) × (f.max_octets ≤ 2000) × (1 ≤ length f.path) × (length f.path ≤ 64))

-- a scheduler may have this rate and burst
abbrev pub MayHave : Committed → Type 0
MayHave c = (1 ≤ c.rate) × (c.rate ≤ 100000000000) × (c.burst_bits ≤ 1000000000)

-- rates and bursts by the clocks on a stream's way: at each of its ports what comes there, and what its scheduler has
-- behind. Refuses a premise beside these, as that clocks are ideal where frames are long
abbrev pub RatesAreKept : Type 0
RatesAreKept = (topology : DeclaredTopology) (stream : DeclaredStream) → HasRates topology stream
    ↔ All (λ port. MayHave (committed_at topology port (stream_sender stream))
    × MayHave (scheduled_at topology port (stream_sender stream))) stream.ports

abbrev pub NodesAreKept : Type 0
NodesAreKept = (node : Node) → IsNode node
    ↔ ((least_processing_of node.kind ≤ greatest_processing_of node.kind)
    × (greatest_processing_of node.kind ≤ 1000000) × (residence_of node.kind ≤ 1000000000)
    × IsClock (clock_of node.kind))

abbrev pub LinksAreKept : Type 0
LinksAreKept = (nodes : List Node) (link : Link) → IsLink nodes link
    ↔ (IsSome (place_of link.a (names_of nodes)) × IsSome (place_of link.b (names_of nodes)) × (link.a ≢ link.b)
    × IsSome (ps_per_bit_of link.mbps) × (link.propagation_ns ≤ 1000000))

abbrev pub TopologiesAreKept : Type 0
TopologiesAreKept = (t : DeclaredTopology) → IsTopology t
    ↔ ((t.ports ≡ ports_of t.nodes t.links) × AreApart (names_of t.nodes) × (length t.nodes ≤ 1024)
    × (length t.links ≤ 2048) × All IsNode t.nodes × All (IsLink t.nodes) t.links
    × All (λ (node : Node). IsTrue (is_station node.kind) → HasOneLink t.links node) t.nodes)

-- a path from a talker to a listener, the ports of a branch, and a tree
abbrev pub PathsAreKept : Type 0
PathsAreKept = (topology : DeclaredTopology) (path : List ℕ) → IsValidPath topology path
    ↔ ((talker : ℕ) × (listener : ℕ) × (1 ≤ length path) × IsWalk topology.ports talker listener path
    × AllPairs (λ a b. a ≢ b) (nodes_along topology.ports path))

abbrev pub BranchesAreKept : Type 0
BranchesAreKept = (topology : DeclaredTopology) (legs : List (List ℕ)) (b : Branch) (path : List ℕ)
    → IsBranch topology legs b path
    ↔ ((listener : ℕ) × IsWalk topology.ports (node_of_branch topology.ports legs b) listener path)

abbrev pub TreesAreKept : Type 0
TreesAreKept = (topology : DeclaredTopology) (ports : List ℕ) (branches : List Branch)
    → IsTree topology ports branches
    ↔ (IsValidPath topology (leg_at (legs_of ports branches) 0)
    × ((n : ℕ) → n < length branches → IsBranch topology (legs_of ports branches)
    (slice_index_or branches n no_branch) (leg_at (legs_of ports branches) (1 + n)))
    × AllPairs (λ a b. a ≢ b) (nodes_along topology.ports ports))

-- all of a network
abbrev pub NetworksAreKept : Type 0
NetworksAreKept = (network : DeclaredNetwork) → IsNetwork network
    ↔ (IsTopology network.topology × All IsStream network.streams × All IsFlow network.flows
    × All (λ (s : Sender). IsTree network.topology s.ports s.branches) (senders_of network)
    × AreApart (sender_names (senders_of network)) × AreIdentified network.streams
    × (length network.streams ≤ 4096) × (length network.flows ≤ 4096)
    × (sum_by (λ (s : DeclaredStream). length s.ports) network.streams ≤ 65536)
    × ((network.most_ports ≡ 16) ⊎ (network.most_ports ≡ 64))
    × All (λ (s : DeclaredStream). All (λ (route : List ℕ). length route ≤ network.most_ports)
    (routes_of s.ports s.branches)) network.streams
    × All (λ (f : DeclaredFlow). length f.path ≤ network.most_ports) network.flows
    × All (HasRates network.topology) network.streams)

pub record KeptIsMeant : Type 0 where
  pub rules : RulesAreKept
  pub streams : StreamsAreKept
  pub flows : FlowsAreKept
  pub rates : RatesAreKept
  pub nodes : NodesAreKept
  pub links : LinksAreKept
  pub topologies : TopologiesAreKept
  pub paths : PathsAreKept
  pub branches : BranchesAreKept
  pub trees : TreesAreKept
  pub networks : NetworksAreKept
