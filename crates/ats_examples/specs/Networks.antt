use Rattle.std.specs.Prelude.{ℕ, List, [], ◌∷◌, ◌++◌, length, codes, None}
use Rattle.ats_topology.specs.Topology.{topology_of}
use Rattle.ats_topology.specs.declared.node.Node.{Node}
use Rattle.ats_topology.specs.declared.node.Kind.TheVariants.{Station, Bridge}
use Rattle.ats_topology.specs.declared.link.Link.{Link}
use Rattle.ats_streams.specs.Stream.{DeclaredStream, declared_stream, classes_for}
use Rattle.ats_streams.specs.Flow.{DeclaredFlow, declared_flow}
use Rattle.ats_network.specs.Network.{DeclaredNetwork, declared_network}

-- The worked networks, each written out once.

abbrev pub station : List ℕ → Node
station name = record { name = name; kind = Station }

-- a bridge with a processing time of 1000 ns and this maximum residence time in nanoseconds
abbrev pub bridge : List ℕ → ℕ → Node
bridge name residence_ns = record { name = name; kind = Bridge 1000 1000 residence_ns 0 0 }

-- a link of 1000 Mb/s, on which a bit takes 1000 ps, with a propagation of 500 ns
abbrev pub link : List ℕ → List ℕ → Link
link a b = record { a = a; b = b; mbps = 1000; propagation_ns = 500 }

-- a stream with these classes along its path, a rate of 100 Mb/s, a burst of one frame of 1522 octets, 64 to 1522
-- octets, and a deadline of 1 ms
abbrev pub stream_of : List ℕ → List ℕ → List ℕ → DeclaredStream
stream_of name path classes = declared_stream name path classes 100000000 12336 64 1522 1000000 None

-- of class 6 at each port
abbrev pub stream : List ℕ → List ℕ → DeclaredStream
stream name path = stream_of name path (classes_for (length path) (6 ∷ []))

-- a flow of frames of 64 to 1522 octets
abbrev pub flow : List ℕ → List ℕ → DeclaredFlow
flow name path = declared_flow name path 1522

-- one bridge between two stations: port 0 leads from s1 to b1, port 1 back, port 2 from b1 to s2, port 3 back. The
-- bridge has this maximum residence time in nanoseconds
abbrev pub nodes_with : ℕ → List Node
nodes_with residence_ns = station (codes "s1") ∷ station (codes "s2") ∷ bridge (codes "b1") residence_ns ∷ []

abbrev pub line_nodes : List Node
line_nodes = nodes_with 1000000

abbrev pub line_links : List Link
line_links = link (codes "s1") (codes "b1") ∷ link (codes "b1") (codes "s2") ∷ []

-- with a stream from s1 to s2, which has number 0
abbrev pub line : DeclaredNetwork
line = declared_network (topology_of line_nodes line_links) (stream (codes "a") (0 ∷ 2 ∷ []) ∷ []) []

-- and with a flow on the same path, which has number 1
abbrev pub line_and_flow : DeclaredNetwork
line_and_flow = declared_network (topology_of line_nodes line_links) (stream (codes "a") (0 ∷ 2 ∷ []) ∷ [])
    (flow (codes "f") (0 ∷ 2 ∷ []) ∷ [])

-- the same where the flow's frames may be an octet longer
abbrev pub with_longer_flow : DeclaredNetwork
with_longer_flow = declared_network line_and_flow.topology line_and_flow.streams
    (declared_flow (codes "f") (0 ∷ 2 ∷ []) 1523 ∷ [])

-- one bridge and three stations: a third link, from s3 to b1, has ports 4 and 5
abbrev pub fork_nodes : List Node
fork_nodes = station (codes "s1") ∷ station (codes "s2") ∷ station (codes "s3") ∷ bridge (codes "b1") 11664 ∷ []

abbrev pub fork_links : List Link
fork_links = line_links ++ link (codes "s3") (codes "b1") ∷ []

-- with two streams to s2, number 0 from s1 and number 1 from s3
abbrev pub fork_with : DeclaredStream → DeclaredNetwork
fork_with first = declared_network (topology_of fork_nodes fork_links) (first ∷ stream (codes "z") (4 ∷ 2 ∷ []) ∷ []) []

abbrev pub fork : DeclaredNetwork
fork = fork_with (stream (codes "a") (0 ∷ 2 ∷ []))

-- where the first is of class 6 at its station, and of class 5 at the bridge
abbrev pub fork_of_classes : DeclaredNetwork
fork_of_classes = fork_with (stream_of (codes "a") (0 ∷ 2 ∷ []) (6 ∷ 5 ∷ []))

-- two bridges between two stations: port 0 leads from s1 to b1, port 2 from b1 to b2, port 4 from b2 to s2
abbrev pub two_nodes : List Node
two_nodes = station (codes "s1") ∷ station (codes "s2") ∷ bridge (codes "b1") 1000000 ∷ bridge (codes "b2") 1000000 ∷ []

abbrev pub two_links : List Link
two_links = link (codes "s1") (codes "b1") ∷ link (codes "b1") (codes "b2") ∷ link (codes "b2") (codes "s2") ∷ []

-- with a stream from s1 to s2
abbrev pub over_two : DeclaredNetwork
over_two = declared_network (topology_of two_nodes two_links) (stream (codes "a") (0 ∷ 2 ∷ 4 ∷ []) ∷ []) []

-- three of them: port 4 leads from b2 to b3, and port 6 from b3 to s2
abbrev pub three_nodes : List Node
three_nodes =
    station (codes "s1") ∷ station (codes "s2")
    ∷ bridge (codes "b1") 1000000 ∷ bridge (codes "b2") 1000000 ∷ bridge (codes "b3") 1000000 ∷ []

abbrev pub three_links : List Link
three_links =
    link (codes "s1") (codes "b1") ∷ link (codes "b1") (codes "b2")
    ∷ link (codes "b2") (codes "b3") ∷ link (codes "b3") (codes "s2") ∷ []

abbrev pub over_three : DeclaredNetwork
over_three = declared_network (topology_of three_nodes three_links) (stream (codes "a") (0 ∷ 2 ∷ 4 ∷ 6 ∷ []) ∷ []) []

-- on the path of the line its stream and another one, which has number 1
abbrev pub line_with : ℕ → DeclaredStream → DeclaredNetwork
line_with residence_ns other = declared_network (topology_of (nodes_with residence_ns) line_links)
    (stream (codes "a") (0 ∷ 2 ∷ []) ∷ other ∷ []) []

-- where the other is one of the same class
abbrev pub line_of_two : ℕ → DeclaredNetwork
line_of_two residence_ns = line_with residence_ns (stream (codes "b") (0 ∷ 2 ∷ []))

-- and where it is one of class 5
abbrev pub line_of_classes : DeclaredNetwork
line_of_classes = line_with 1000000 (stream_of (codes "c") (0 ∷ 2 ∷ []) (5 ∷ 5 ∷ []))

-- where it is one of class 6 at the station and of class 5 at the bridge, and the other way round
abbrev pub line_lowered : DeclaredNetwork
line_lowered = line_with 1000000 (stream_of (codes "b") (0 ∷ 2 ∷ []) (6 ∷ 5 ∷ []))

abbrev pub line_raised : DeclaredNetwork
line_raised = line_with 1000000 (stream_of (codes "b") (0 ∷ 2 ∷ []) (5 ∷ 6 ∷ []))

-- a bridge that takes 200 to 1000 ns to process a frame, with this maximum residence time in nanoseconds
abbrev pub ranged_bridge : List ℕ → ℕ → Node
ranged_bridge name residence_ns = record { name = name; kind = Bridge 200 1000 residence_ns 0 0 }

-- the line over such a bridge: port 0 has an earliest latency of 700000 ps, and a latency of 1500000 ps
abbrev pub ranged_nodes : ℕ → List Node
ranged_nodes residence_ns = station (codes "s1") ∷ station (codes "s2") ∷ ranged_bridge (codes "b1") residence_ns ∷ []

abbrev pub ranged : ℕ → DeclaredNetwork
ranged residence_ns = declared_network (topology_of (ranged_nodes residence_ns) line_links)
    (stream (codes "a") (0 ∷ 2 ∷ []) ∷ []) []

-- where the residence just fits the wait at port 0 and the port's spread
abbrev pub ranged_line : DeclaredNetwork
ranged_line = ranged 12464

-- and over two of them, where ports 0 and 2 have these latencies
abbrev pub two_ranged_nodes : List Node
two_ranged_nodes =
    station (codes "s1") ∷ station (codes "s2")
    ∷ ranged_bridge (codes "b1") 12464 ∷ ranged_bridge (codes "b2") 12464 ∷ []

abbrev pub over_two_ranged : DeclaredNetwork
over_two_ranged = declared_network (topology_of two_ranged_nodes two_links)
    (stream (codes "a") (0 ∷ 2 ∷ 4 ∷ []) ∷ []) []

-- a stream over the line with a rate of 50 Mb/s and frames of 64 octets, of which one is its burst
abbrev pub small : List ℕ → ℕ → DeclaredStream
small name class = declared_stream name (0 ∷ 2 ∷ []) (class ∷ class ∷ []) 50000000 672 64 64 1000000 None

-- on the line, whose bridge has this maximum residence time in nanoseconds, with another of the same class. Behind a
-- frame of 1522 octets of the other a small one waits for 12336000 ps, so its next one may have to stay in the bridge
-- as long
abbrev pub pair : ℕ → DeclaredNetwork
pair residence_ns = declared_network (topology_of (nodes_with residence_ns) line_links)
    (small (codes "a") 6 ∷ stream (codes "b") (0 ∷ 2 ∷ []) ∷ []) []

-- on the line, below a stream of class 6 with a rate of 500 Mb/s
abbrev pub below : DeclaredNetwork
below =
    declared_network (topology_of line_nodes line_links)
    (small (codes "a") 5
    ∷ declared_stream (codes "b") (0 ∷ 2 ∷ []) (6 ∷ 6 ∷ []) 500000000 12336 64 1522 1000000 None
    ∷ [])
    []

-- a stream on the line with twice the rate of the links
abbrev pub fast : DeclaredNetwork
fast = declared_network (topology_of line_nodes line_links)
    (declared_stream (codes "a") (0 ∷ 2 ∷ []) (6 ∷ 6 ∷ []) 2000000000 12336 64 1522 1000000 None ∷ []) []

-- the line where the burst of the stream covers two frames of 1522 octets
abbrev pub line_of_bursts : DeclaredNetwork
line_of_bursts = declared_network (topology_of line_nodes line_links)
    (declared_stream (codes "a") (0 ∷ 2 ∷ []) (6 ∷ 6 ∷ []) 100000000 24672 64 1522 1000000 None ∷ []) []

-- two stations before three bridges, and a third behind them: port 0 leads from s1 to b1, port 2 from s2 to b1, port 4
-- from b1 to b2, port 6 from b2 to b3, and port 8 from b3 to s3
abbrev pub merged_nodes : List Node
merged_nodes =
    station (codes "s1") ∷ station (codes "s2") ∷ station (codes "s3")
    ∷ bridge (codes "b1") 1000000 ∷ bridge (codes "b2") 1000000 ∷ bridge (codes "b3") 1000000 ∷ []

abbrev pub merged_links : List Link
merged_links =
    link (codes "s1") (codes "b1") ∷ link (codes "s2") (codes "b1") ∷ link (codes "b1") (codes "b2")
    ∷ link (codes "b2") (codes "b3") ∷ link (codes "b3") (codes "s3") ∷ []

-- with a stream from each of the two to the third
abbrev pub merged : DeclaredNetwork
merged = declared_network (topology_of merged_nodes merged_links)
    (stream (codes "x") (0 ∷ 4 ∷ 6 ∷ 8 ∷ []) ∷ stream (codes "y") (2 ∷ 4 ∷ 6 ∷ 8 ∷ []) ∷ []) []
