use Rattle.std.specs.Prelude.{ℕ, List, [], ◌∷◌, ◌++◌, length, codes, None}
use Rattle.ats_topology.specs.Topology.{DeclaredTopology, topology_of}
use Rattle.ats_topology.specs.declared.node.Node.{Node}
use Rattle.ats_topology.specs.declared.link.Link.{Link}
use Rattle.ats_streams.specs.Stream.{DeclaredStream, branching_stream, classes_for}
use Rattle.ats_streams.specs.declared.branch.Branch.{Branch}
use Rattle.ats_network.specs.Network.{DeclaredNetwork, long_network}
use Rattle.ats_examples.specs.Networks.{station, bridge, ranged_bridge, link, flow}

-- The worked networks whose streams have several listeners, each written out once.

-- the branch whose ports stand from this place on among those of its stream, and which begins at the bridge that port
-- `hop` of this leg leaves
abbrev pub branch : ℕ → ℕ → ℕ → Branch
branch first leg hop = record { first = first; leg = leg; hop = hop }

-- a stream with these branches, classes and deadline in nanoseconds, a rate of 100 Mb/s, a burst of one frame of 1522
-- octets, and 64 to 1522 octets
abbrev pub stream_of : List ℕ → List ℕ → List Branch → List ℕ → ℕ → DeclaredStream
stream_of name ports branches classes deadline_ns =
    branching_stream name ports branches (classes_for (length ports) classes) 100000000 12336 64 1522 deadline_ns None

-- of class 6 at each port, with a deadline of 1 ms
abbrev pub stream : List ℕ → List ℕ → List Branch → DeclaredStream
stream name ports branches = stream_of name ports branches (6 ∷ []) 1000000

-- one bridge between three stations: port 0 leads from s1 to b1, port 2 from b1 to s2, port 4 from b1 to s3, and each
-- next one back. The bridge has this maximum residence time in nanoseconds
abbrev pub split_nodes : ℕ → List Node
split_nodes residence_ns =
    station (codes "s1") ∷ station (codes "s2") ∷ station (codes "s3") ∷ bridge (codes "b1") residence_ns ∷ []

abbrev pub split_links : List Link
split_links =
    link (codes "s1") (codes "b1") ∷ link (codes "b1") (codes "s2") ∷ link (codes "b1") (codes "s3") ∷ []

abbrev pub split_topology : DeclaredTopology
split_topology = topology_of (split_nodes 1000000) split_links

-- a stream from s1 to s2 and to s3, which has number 0: its copies leave b1 by port 4, beside port 2 of the trunk. It
-- has this deadline in nanoseconds
abbrev pub split_stream : List ℕ → ℕ → DeclaredStream
split_stream classes deadline_ns = stream_of (codes "a") (0 ∷ 2 ∷ 4 ∷ []) (branch 2 0 1 ∷ []) classes deadline_ns

abbrev pub split : DeclaredNetwork
split = long_network split_topology (split_stream (6 ∷ []) 1000000 ∷ []) []

-- and with a flow from s3 to s2, which has number 1
abbrev pub split_and_flow : DeclaredNetwork
split_and_flow = long_network split_topology split.streams (flow (codes "f") (5 ∷ 2 ∷ []) ∷ [])

-- and with a stream from s2 to s3, which has number 1
abbrev pub beside_stream_within : ℕ → DeclaredNetwork
beside_stream_within deadline_ns = long_network split_topology
    (split_stream (6 ∷ []) deadline_ns ∷ stream (codes "z") (3 ∷ 4 ∷ []) [] ∷ []) []

abbrev pub split_and_stream : DeclaredNetwork
split_and_stream = beside_stream_within 1000000

-- and with a stream of 50 Mb/s from s1 to s2, which has number 1: no trunk has port 4
abbrev pub split_and_slower : DeclaredNetwork
split_and_slower = long_network split_topology
    (split_stream (6 ∷ []) 1000000
    ∷ branching_stream (codes "z") (0 ∷ 2 ∷ []) [] (6 ∷ 6 ∷ []) 50000000 12336 64 1522 1000000 None
    ∷ [])
    []

-- where the copies leave the bridge in class 5, as do the frames of another stream from s1 to s3, of 50 Mb/s, which has
-- number 1; at s1 both have class 6. Frames may stay 100000 ns
abbrev pub split_by_class : DeclaredNetwork
split_by_class = long_network (topology_of (split_nodes 100000) split_links)
    (split_stream (6 ∷ 6 ∷ 5 ∷ []) 1000000
    ∷ branching_stream (codes "z") (0 ∷ 4 ∷ []) [] (6 ∷ 5 ∷ []) 50000000 12336 64 1522 1000000 None
    ∷ [])
    []

-- over a bridge that takes 200 to 1000 ns to process a frame
abbrev pub split_ranged_nodes : List Node
split_ranged_nodes =
    station (codes "s1") ∷ station (codes "s2") ∷ station (codes "s3") ∷ ranged_bridge (codes "b1") 12464 ∷ []

abbrev pub split_ranged : DeclaredNetwork
split_ranged = long_network (topology_of split_ranged_nodes split_links) split.streams []

-- where port 4 leads from b1 to b2, which takes 200 to 1000 ns to process a frame, and port 6 from there to s3: the
-- copies alone go over b2
abbrev pub branch_ranged_nodes : List Node
branch_ranged_nodes = split_nodes 1000000 ++ ranged_bridge (codes "b2") 1000000 ∷ []

abbrev pub branch_ranged_links : List Link
branch_ranged_links =
    link (codes "s1") (codes "b1") ∷ link (codes "b1") (codes "s2") ∷ link (codes "b1") (codes "b2")
    ∷ link (codes "b2") (codes "s3") ∷ []

abbrev pub branch_ranged : DeclaredNetwork
branch_ranged = long_network (topology_of branch_ranged_nodes branch_ranged_links)
    (stream (codes "a") (0 ∷ 2 ∷ 4 ∷ 6 ∷ []) (branch 2 0 1 ∷ []) ∷ []) []

-- the same listeners by two streams with one listener each, which both use port 0
abbrev pub by_two_streams : DeclaredNetwork
by_two_streams = long_network split_topology
    (stream (codes "a") (0 ∷ 2 ∷ []) [] ∷ stream (codes "b") (0 ∷ 4 ∷ []) [] ∷ []) []

-- one bridge between three stations, where port 4 leads from s3 to b1, and frames may stay 11664 ns; with a stream from
-- s1 to s2, and one from s3 to s2 and to s1, where port 1 leads
abbrev pub crossed_links : List Link
crossed_links =
    link (codes "s1") (codes "b1") ∷ link (codes "b1") (codes "s2") ∷ link (codes "s3") (codes "b1") ∷ []

abbrev pub crossed : DeclaredNetwork
crossed = long_network (topology_of (split_nodes 11664) crossed_links)
    (stream (codes "a") (0 ∷ 2 ∷ []) [] ∷ stream (codes "z") (4 ∷ 2 ∷ 1 ∷ []) (branch 2 0 1 ∷ []) ∷ []) []

-- three bridges between five stations: port 0 leads from s1 to b1, port 2 from b1 to b2, port 4 from b2 to s2, port 6
-- from b1 to s3, port 8 from b2 to b3, port 10 from b3 to s4, and port 12 from b3 to s5. The second bridge has this
-- maximum residence time in nanoseconds
abbrev pub tree_nodes : ℕ → List Node
tree_nodes residence_ns =
    station (codes "s1") ∷ station (codes "s2") ∷ station (codes "s3") ∷ station (codes "s4") ∷ station (codes "s5")
    ∷ bridge (codes "b1") 1000000 ∷ bridge (codes "b2") residence_ns ∷ bridge (codes "b3") 1000000 ∷ []

abbrev pub tree_links : List Link
tree_links =
    link (codes "s1") (codes "b1") ∷ link (codes "b1") (codes "b2") ∷ link (codes "b2") (codes "s2")
    ∷ link (codes "b1") (codes "s3") ∷ link (codes "b2") (codes "b3") ∷ link (codes "b3") (codes "s4")
    ∷ link (codes "b3") (codes "s5") ∷ []

-- a stream from s1 to s2, and to s3, s4 and s5: its branches begin at b1, at b2, and, at the second branch, at b3
abbrev pub tree_ports : List ℕ
tree_ports = 0 ∷ 2 ∷ 4 ∷ 6 ∷ 8 ∷ 10 ∷ 12 ∷ []

abbrev pub tree_branches : List Branch
tree_branches = branch 3 0 1 ∷ branch 4 0 2 ∷ branch 6 2 1 ∷ []

-- with this deadline in nanoseconds
abbrev pub tree_within : ℕ → DeclaredNetwork
tree_within deadline_ns = long_network (topology_of (tree_nodes 1000000) tree_links)
    (stream_of (codes "a") tree_ports tree_branches (6 ∷ []) deadline_ns ∷ []) []

abbrev pub tree : DeclaredNetwork
tree = tree_within 1000000

-- over the same links, a stream from b2 to s2, and to s3 and b3: both branches begin at b2, the talker
abbrev pub bridge_ports : List ℕ
bridge_ports = 4 ∷ 3 ∷ 6 ∷ 8 ∷ []

abbrev pub bridge_branches : List Branch
bridge_branches = branch 1 0 0 ∷ branch 3 0 0 ∷ []

abbrev pub from_bridge : DeclaredNetwork
from_bridge = long_network (topology_of (tree_nodes 1000000) tree_links)
    (stream (codes "a") bridge_ports bridge_branches ∷ []) []

-- and with a stream from b2 to s2, and to s3 and s1: the first branch begins at the talker, and the second at b1,
-- behind
-- the first one's first port
abbrev pub behind_ports : List ℕ
behind_ports = 4 ∷ 3 ∷ 6 ∷ 1 ∷ []

abbrev pub behind_branches : List Branch
behind_branches = branch 1 0 0 ∷ branch 3 1 1 ∷ []

abbrev pub behind_bridge : DeclaredNetwork
behind_bridge = long_network (topology_of (tree_nodes 1000000) tree_links)
    (stream (codes "a") behind_ports behind_branches ∷ []) []

-- the same tree with its listeners in another order, s3, s2, s5 and s4, which is neither that of their names nor that
-- of the nodes: the branches begin at b1, at b2 on the first branch, and at b3 on the second
abbrev pub turned_ports : List ℕ
turned_ports = 0 ∷ 6 ∷ 2 ∷ 4 ∷ 8 ∷ 12 ∷ 10 ∷ []

abbrev pub turned_branches : List Branch
turned_branches = branch 2 0 1 ∷ branch 4 1 1 ∷ branch 6 2 1 ∷ []

abbrev pub turned_within : ℕ → DeclaredNetwork
turned_within deadline_ns = long_network (topology_of (tree_nodes 1000000) tree_links)
    (stream_of (codes "a") turned_ports turned_branches (6 ∷ []) deadline_ns ∷ []) []

abbrev pub turned : DeclaredNetwork
turned = turned_within 1000000

-- and with a flow from s3 to s2, where no frame may stay at the second bridge
abbrev pub tree_and_flow : DeclaredNetwork
tree_and_flow = long_network (topology_of (tree_nodes 0) tree_links) tree.streams
    (flow (codes "f") (7 ∷ 2 ∷ 4 ∷ []) ∷ [])

-- the tree with an eighth link, from b1 to b3 by port 14
abbrev pub ring_links : List Link
ring_links = tree_links ++ link (codes "b1") (codes "b3") ∷ []

abbrev pub ring_topology : DeclaredTopology
ring_topology = topology_of (tree_nodes 1000000) ring_links

-- over it a stream from s1 to s2 and to s4, whose frames go to s4 over b2, though the eighth link is a shorter way
abbrev pub round : DeclaredNetwork
round = long_network ring_topology
    (stream (codes "a") (0 ∷ 2 ∷ 4 ∷ 8 ∷ 10 ∷ []) (branch 3 0 2 ∷ []) ∷ []) []
