use Rattle.std.specs.Prelude.{ℕ, List, [], ◌∷◌, codes, None}
use Rattle.ats_topology.specs.Topology.{topology_of}
use Rattle.ats_topology.specs.declared.node.Node.{Node}
use Rattle.ats_topology.specs.declared.link.Link.{Link}
use Rattle.ats_streams.specs.Stream.{DeclaredStream, declared_stream}
use Rattle.ats_network.specs.Sender.{Sender}
use Rattle.ats_network.specs.Network.{DeclaredNetwork, declared_network, long_network}
use Rattle.ats_examples.specs.Networks.{bridge, flow, line_with, link, station, stream}
use Rattle.ats_tree_examples.specs.Networks as trees
use Rattle.ats_tree_examples.specs.Networks.{branch, tree, tree_branches, tree_ports}

-- two bridges and three stations: port 0 leads from s1 to b1, port 2 from b1 to b2, port 4 from b2 to s2, and port 6
-- from s3 to b2
abbrev pub joined_nodes : List Node
joined_nodes =
    station (codes "s1") ∷ station (codes "s2") ∷ station (codes "s3")
    ∷ bridge (codes "b1") 1000000 ∷ bridge (codes "b2") 1000000 ∷ []

abbrev pub joined_links : List Link
joined_links =
    link (codes "s1") (codes "b1") ∷ link (codes "b1") (codes "b2")
    ∷ link (codes "b2") (codes "s2") ∷ link (codes "s3") (codes "b2") ∷ []

-- with two streams to s2: number 0 comes from s1, over both bridges, and number 1 from s3, over the second one alone
abbrev pub joined : DeclaredNetwork
joined = declared_network (topology_of joined_nodes joined_links)
    (stream (codes "a") (0 ∷ 2 ∷ 4 ∷ []) ∷ stream (codes "z") (6 ∷ 4 ∷ []) ∷ []) []

-- the tree of three bridges and five stations with its stream to four listeners, which has number 0, with a stream from
-- s2 to s1 and to s4, which has number 1 and whose copies leave the second bridge by port 8, and with a flow from s2 to
-- s5, which has number 2
abbrev pub joined_trees : DeclaredNetwork
joined_trees = long_network tree.topology
    (trees.stream (codes "a") tree_ports tree_branches
    ∷ trees.stream (codes "z") (5 ∷ 3 ∷ 1 ∷ 8 ∷ 10 ∷ []) (branch 3 0 1 ∷ []) ∷ [])
    (flow (codes "f") (5 ∷ 8 ∷ 12 ∷ []) ∷ [])

-- frames of 1522 octets, whose burst is this many bits
abbrev pub bursting : List ℕ → ℕ → ℕ → DeclaredStream
bursting name class burst_bits =
    declared_stream name (0 ∷ 2 ∷ []) (class ∷ class ∷ []) 100000000 burst_bits 64 1522 1000000 None

-- on the line, below its stream, one of class 5 whose burst covers three frames
abbrev pub line_of_three : DeclaredNetwork
line_of_three = line_with 1000000 (bursting (codes "b") 5 40000)

-- a sender with this burst, whose longest frames have 1522 octets, which are 12336 bits
abbrev pub sender_with : ℕ → Sender
sender_with burst_bits = record {
  name = codes "a";
  ports = 0 ∷ [];
  branches = [];
  classes = 6 ∷ [];
  rate = 100000000;
  burst_bits = burst_bits;
  min_octets = 64;
  max_octets = 1522;
}
