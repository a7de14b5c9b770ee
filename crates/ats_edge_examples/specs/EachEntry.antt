use Rattle.std.specs.Prelude.{List, [], ◌∷◌, ◌++◌, codes, drop, take, None, Some}
use Rattle.ats_topology.specs.Topology.{DeclaredTopology, topology_of}
use Rattle.ats_topology.specs.declared.node.Node.{Node}
use Rattle.ats_topology.specs.declared.link.Link.{Link}
use Rattle.ats_streams.specs.Flow.{DeclaredFlow, declared_flow}
use Rattle.ats_streams.specs.Stream.{DeclaredStream, branching_stream}
use Rattle.ats_network.specs.Network.{declared_network, long_network}
use Rattle.ats_network_toml.specs.Document as file
use Rattle.ats_network_file_law.specs.Entries.{IsFlowOf, IsNetworkOf, IsPathOf, IsStreamOf}
use Rattle.ats_examples.specs.Networks.{bridge, fork, fork_links, fork_nodes, link, station}
use Rattle.ats_file_examples.specs.AtPorts.{along, pair_topology, several_document, several_flows, several_streams}
use Rattle.ats_file_examples.specs.Forked as forked

-- Which network is that of a file's tables, and which just is not: of each of these one thing is another.

-- tables with a stream to two stations, by its ends, with a class for each port; and that they declare the network of
-- these nodes and links, with these streams, where routes may be long
abbrev pub tables : file.DeclaredDocument
tables = forked.document_with forked.ends_routes (6 ∷ 5 ∷ 4 ∷ [])

abbrev pub AreOf : List Node → List Link → List DeclaredStream → Type 0
AreOf nodes links streams = IsNetworkOf tables (long_network (topology_of nodes links) streams [])

-- the stream, and that they declare this one in its place
abbrev pub forking : DeclaredStream
forking = branching_stream (codes "a") (0 ∷ 2 ∷ 5 ∷ []) (record { first = 2; leg = 0; hop = 1 } ∷ [])
    (6 ∷ 5 ∷ 4 ∷ []) 100000000 12336 64 1522 26672 (Some (0x01005E000001, 5))

abbrev pub IsOne : DeclaredStream → Type 0
IsOne s = AreOf fork_nodes fork_links (s ∷ [])

-- each number of a stream counts
pub record NumbersCount : Type 0 where
  pub is : IsOne forking
  pub name : ¬ IsOne (record forking { name = codes "b" })
  pub rate : ¬ IsOne (record forking { rate = 99999999 })
  pub burst : ¬ IsOne (record forking { burst_bits = 12337 })
  pub least : ¬ IsOne (record forking { min_octets = 65 })
  pub greatest : ¬ IsOne (record forking { max_octets = 1521 })
  pub deadline : ¬ IsOne (record forking { deadline_ns = 26671 })
  pub address : ¬ IsOne (record forking { identity = Some (0x01005E000002, 5) })
  pub vlan : ¬ IsOne (record forking { identity = Some (0x01005E000001, 6) })
  pub no_identity : ¬ IsOne (record forking { identity = None })

-- and so do its class at each port, and each of its listeners, in their order
pub record RoutesCount : Type 0 where
  pub class : ¬ IsOne (record forking { classes = 6 ∷ 5 ∷ 5 ∷ [] })
  pub first_class : ¬ IsOne (record forking { classes = 6 ∷ 6 ∷ 6 ∷ [] })
  pub turned : ¬ IsOne (record forking { ports = 0 ∷ 5 ∷ 2 ∷ [] })
  pub to_first : ¬ IsOne (record forking { ports = 0 ∷ 2 ∷ []; branches = []; classes = 6 ∷ 5 ∷ [] })

-- the streams are just those of the tables, and so are nodes, links and the most ports of a route
pub record TablesCount : Type 0 where
  pub no_stream : ¬ AreOf fork_nodes fork_links []
  pub stream_twice : ¬ AreOf fork_nodes fork_links (forking ∷ forking ∷ [])
  pub residence : ¬ AreOf (take 3 fork_nodes ++ bridge (codes "b1") 11665 ∷ []) fork_links (forking ∷ [])
  pub node : ¬ AreOf (fork_nodes ++ station (codes "s4") ∷ []) fork_links (forking ∷ [])
  pub link : ¬ AreOf fork_nodes (take 2 fork_links ++ link (codes "b1") (codes "s3") ∷ []) (forking ∷ [])
  pub short : ¬ IsNetworkOf tables (declared_network fork.topology (forking ∷ []) [])
  pub flow : ¬ IsNetworkOf tables
      (long_network fork.topology (forking ∷ []) (declared_flow (codes "f") (0 ∷ 2 ∷ []) 64 ∷ []))

-- tables with a stream and a flow, and two of each for each port; and that they declare these streams and flows
abbrev pub HaveAll : List DeclaredStream → List DeclaredFlow → Type 0
HaveAll streams flows = IsNetworkOf several_document (long_network pair_topology streams flows)

-- those of the flow's entry, and those for each port, in the order of the tables and then of the ports. Refuses streams
-- or flows of which the first or the last is left out, or one takes the place of the next
pub record EachHasItsPlace : Type 0 where
  pub are : HaveAll several_streams several_flows
  pub no_first_stream : ¬ HaveAll (drop 1 several_streams) several_flows
  pub no_last_stream : ¬ HaveAll (take 4 several_streams) several_flows
  pub stream_astray : ¬ HaveAll (take 1 several_streams ++ along (codes "g-0") 1 ∷ drop 2 several_streams)
      several_flows
  pub no_first_flow : ¬ HaveAll several_streams (drop 1 several_flows)
  pub no_last_flow : ¬ HaveAll several_streams (take 4 several_flows)
  pub flow_renamed : ¬ HaveAll several_streams (declared_flow (codes "g") (1 ∷ []) 1500 ∷ drop 1 several_flows)
  pub flow_longer : ¬ HaveAll several_streams (declared_flow (codes "f") (1 ∷ []) 1501 ∷ drop 1 several_flows)
  pub flow_turned : ¬ HaveAll several_streams (declared_flow (codes "f") (0 ∷ []) 1500 ∷ drop 1 several_flows)
  pub last_flow_astray : ¬ HaveAll several_streams
      (take 4 several_flows ++ declared_flow (codes "m-1") (0 ∷ []) 128 ∷ [])

-- two stations, and a way of one link between two bridges, one over a third bridge, and one by a second link: ports 0,
-- 2 and 4; 0, 6, 8 and 4; and 0, 10 and 4
abbrev pub three_ways : DeclaredTopology
three_ways = topology_of
    (station (codes "s1") ∷ station (codes "s2") ∷ bridge (codes "b1") 1000000 ∷ bridge (codes "b2") 1000000
    ∷ bridge (codes "b3") 1000000 ∷ [])
    (link (codes "s1") (codes "b1") ∷ link (codes "b1") (codes "b2") ∷ link (codes "b2") (codes "s2")
    ∷ link (codes "b1") (codes "b3") ∷ link (codes "b3") (codes "b2") ∷ link (codes "b1") (codes "b2") ∷ [])

abbrev pub by_ends : file.DeclaredRoute
by_ends = file.ends (codes "s1") (codes "s2")

abbrev pub by_third : file.DeclaredRoute
by_third = file.path (codes "s1" ∷ codes "b1" ∷ codes "b3" ∷ codes "b2" ∷ codes "s2" ∷ [])

-- the path of two ends is the walk of fewest ports from the first to the second, and of those the first in order; that
-- of names goes through all of them
pub record PathsCount : Type 0 where
  pub shortest : IsPathOf three_ways by_ends (0 ∷ 2 ∷ 4 ∷ [])
  pub longer : ¬ IsPathOf three_ways by_ends (0 ∷ 6 ∷ 8 ∷ 4 ∷ [])
  pub later : ¬ IsPathOf three_ways by_ends (0 ∷ 10 ∷ 4 ∷ [])
  pub back : ¬ IsPathOf three_ways by_ends (5 ∷ 3 ∷ 1 ∷ [])
  pub named : IsPathOf three_ways by_third (0 ∷ 6 ∷ 8 ∷ 4 ∷ [])
  pub not_named : ¬ IsPathOf three_ways by_third (0 ∷ 2 ∷ 4 ∷ [])

-- a fourth station at the fork's bridge, and an entry of a stream to three stations
abbrev pub star : DeclaredTopology
star = topology_of (fork_nodes ++ station (codes "s4") ∷ []) (fork_links ++ link (codes "s4") (codes "b1") ∷ [])

abbrev pub to_three : file.DeclaredStream
to_three = record {
  name = codes "a";
  routes =
      file.ends (codes "s1") (codes "s2") ∷ file.ends (codes "s1") (codes "s3")
      ∷ file.ends (codes "s1") (codes "s4") ∷ [];
  classes = 6 ∷ [];
  rate_bps = 100000000;
  burst_bits = 12336;
  min_octets = 64;
  max_octets = 1522;
  deadline_ns = 26672;
  identity = None;
}

-- its frames are copied at the bridge. A leg that begins at the first hop of another branch would have the same route
abbrev pub at_branch : DeclaredStream
at_branch = branching_stream (codes "a") (0 ∷ 2 ∷ 5 ∷ 7 ∷ [])
    (record { first = 2; leg = 0; hop = 1 } ∷ record { first = 3; leg = 1; hop = 0 } ∷ []) (6 ∷ 6 ∷ 6 ∷ 6 ∷ [])
    100000000 12336 64 1522 26672 None

-- a stream to two stations, for which its talker would send each frame twice to the bridge; its routes are the same
abbrev pub sent_twice : DeclaredStream
sent_twice = record forking {
  ports = 0 ∷ 2 ∷ 0 ∷ 5 ∷ [];
  branches = record { first = 2; leg = 0; hop = 0 } ∷ [];
  classes = 6 ∷ 6 ∷ 6 ∷ 6 ∷ [];
}

-- an entry of a flow that goes back to its station
abbrev pub there_and_back : file.DeclaredFlow
there_and_back = record {
  name = codes "f";
  route = file.path (codes "s1" ∷ codes "b1" ∷ codes "s1" ∷ []);
  max_octets = 1500;
}

-- legs make a tree, and the path of a flow goes to no node twice
pub record LegsCount : Type 0 where
  pub at_branch : ¬ IsStreamOf star to_three at_branch
  pub sent_twice : ¬ IsNetworkOf (forked.document_with forked.ends_routes (6 ∷ []))
      (long_network fork.topology (sent_twice ∷ []) [])
  pub back : ¬ IsFlowOf pair_topology there_and_back (declared_flow (codes "f") (0 ∷ 1 ∷ []) 1500)

pub record EachEntryCounts : Type 0 where
  pub numbers : NumbersCount
  pub routes : RoutesCount
  pub tables : TablesCount
  pub places : EachHasItsPlace
  pub paths : PathsCount
  pub legs : LegsCount
