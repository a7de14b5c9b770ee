use Rattle.std.specs.Prelude.{◌≡◌, ◌⊎◌, ℕ, ◌≤◌, List, [], ◌++◌, length, map, sum_by, Some, All, AllPairs}
use Rattle.ats_topology.specs.Node.{AreApart}
use Rattle.ats_topology.specs.Topology.{DeclaredTopology, IsTopology}
use Rattle.ats_streams.specs.Branches.{AreShort, routes_of}
use Rattle.ats_streams.specs.Stream.{DeclaredStream, IsStream}
use Rattle.ats_streams.specs.Flow.{DeclaredFlow, IsFlow}
use Rattle.ats_streams.specs.declared.path.TheConstants.{MAX_PORTS, MAX_SHORT_PORTS}
use Rattle.ats_network.specs.Sender.{Sender, stream_sender, flow_sender}
use Rattle.ats_network.specs.Path.{IsTree}
use Rattle.ats_network.specs.Rates.{HasRates}
use Rattle.ats_network.specs.declared.network.TheConstants.{MAX_STREAMS, MAX_FLOWS, MAX_PORTS_TOGETHER}

-- a network: nodes, links and ports, the greatest number of ports of a route, and the streams and flows that are
-- declared over them
pub record DeclaredNetwork : Type 0 where
  pub topology : DeclaredTopology
  pub most_ports : ℕ
  pub streams : List DeclaredStream
  pub flows : List DeclaredFlow

-- a topology, streams and flows as one network, whose routes have at most so many ports
abbrev pub network_within : DeclaredTopology → ℕ → List DeclaredStream → List DeclaredFlow → DeclaredNetwork
network_within topology most streams flows =
    record { topology = topology; most_ports = most; streams = streams; flows = flows }

-- the same, where the routes are short
abbrev pub declared_network : DeclaredTopology → List DeclaredStream → List DeclaredFlow → DeclaredNetwork
declared_network topology streams flows = network_within topology MAX_SHORT_PORTS streams flows

-- the same, where they may be long
abbrev pub long_network : DeclaredTopology → List DeclaredStream → List DeclaredFlow → DeclaredNetwork
long_network topology streams flows = network_within topology MAX_PORTS streams flows

-- a route of a network has at most 16 ports, or at most 64
abbrev pub IsMostPorts : ℕ → Type 0
IsMostPorts most = (most ≡ MAX_SHORT_PORTS) ⊎ (most ≡ MAX_PORTS)

-- the senders, numbered from 0: the streams in their order, then the flows in theirs
abbrev pub senders_of : DeclaredNetwork → List Sender
senders_of network = map stream_sender network.streams ++ map flow_sender network.flows

-- the senders' names
abbrev pub names_of : List Sender → List (List ℕ)
names_of senders = map (λ (s : Sender). s.name) senders

-- two streams have this destination address and VLAN identifier
pub record Share (s t : DeclaredStream) (identity : ℕ × ℕ) : Type 0 where
  pub one : s.identity ≡ Some identity
  pub other : t.identity ≡ Some identity

-- no two streams have one identity
abbrev pub AreIdentified : List DeclaredStream → Type 0
AreIdentified streams = AllPairs (λ (s t : DeclaredStream). (identity : ℕ × ℕ) → ¬ Share s t identity) streams

-- the ports of streams, counted together
abbrev pub ports_together : List DeclaredStream → ℕ
ports_together streams = sum_by (λ (s : DeclaredStream). length s.ports) streams

-- no route of a stream has more ports than this
abbrev pub HasShortRoutes : ℕ → DeclaredStream → Type 0
HasShortRoutes most stream = AreShort most (routes_of stream.ports stream.branches)

-- nor has the path of a flow
abbrev pub HasShortPath : ℕ → DeclaredFlow → Type 0
HasShortPath most flow = length flow.path ≤ most

-- what each network keeps
pub record IsNetwork (network : DeclaredNetwork) : Type 0 where
  pub topology : IsTopology network.topology
  pub streams : All IsStream network.streams
  pub flows : All IsFlow network.flows
  pub trees : All (λ (s : Sender). IsTree network.topology s.ports s.branches) (senders_of network)
  pub names : AreApart (names_of (senders_of network))
  pub identities : AreIdentified network.streams
  pub few_streams : length network.streams ≤ MAX_STREAMS
  pub few_flows : length network.flows ≤ MAX_FLOWS
  pub few_ports : ports_together network.streams ≤ MAX_PORTS_TOGETHER
  pub most_ports : IsMostPorts network.most_ports
  pub short_streams : All (HasShortRoutes network.most_ports) network.streams
  pub short_flows : All (HasShortPath network.most_ports) network.flows
  pub rates : All (HasRates network.topology) network.streams

-- each stream has one listener: no stream has a branch
abbrev pub HasOneListener : DeclaredNetwork → Type 0
HasOneListener network = All (λ (s : DeclaredStream). s.branches ≡ []) network.streams
