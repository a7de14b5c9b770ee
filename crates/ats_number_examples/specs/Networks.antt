use Rattle.std.specs.Prelude.{ℕ, List, [], ◌∷◌, codes, None}
use Rattle.ats_topology.specs.Topology.{DeclaredTopology, topology_of}
use Rattle.ats_topology.specs.declared.node.Node.{Node}
use Rattle.ats_topology.specs.declared.node.Kind.TheVariants.{Bridge}
use Rattle.ats_topology.specs.declared.link.Link.{Link}
use Rattle.ats_streams.specs.Stream.{DeclaredStream, declared_stream}
use Rattle.ats_network.specs.Network.{DeclaredNetwork, declared_network}
use Rattle.ats_examples.specs.Networks.{bridge, flow, line_links, line_nodes, link, station}

-- Networks with more than one stream, hop or kind of sender.

-- a stream of class 6 with 100 Mb/s, a burst of one frame of 1522 octets, and this deadline in nanoseconds
abbrev pub until : ℕ → List ℕ → List ℕ → List ℕ → DeclaredStream
until deadline_ns name path classes = declared_stream name path classes 100000000 12336 64 1522 deadline_ns None

-- two bridges with this maximum residence time, and three stations: port 0 leads from s1 to b1, port 2 from b1 to b2,
-- port 4 from b2 to s2, and port 6 from s3 to b2
abbrev pub joined_nodes : ℕ → List Node
joined_nodes residence_ns =
    station (codes "s1") ∷ station (codes "s2") ∷ station (codes "s3")
    ∷ bridge (codes "b1") residence_ns ∷ bridge (codes "b2") residence_ns ∷ []

abbrev pub joined_links : List Link
joined_links =
    link (codes "s1") (codes "b1") ∷ link (codes "b1") (codes "b2")
    ∷ link (codes "b2") (codes "s2") ∷ link (codes "s3") (codes "b2") ∷ []

-- two streams to s2 with this deadline: number 0 comes from s1, over both bridges, and number 1 from s3, over the
-- second one alone
abbrev pub joined_streams : ℕ → List DeclaredStream
joined_streams deadline_ns =
    until deadline_ns (codes "a") (0 ∷ 2 ∷ 4 ∷ []) (6 ∷ 6 ∷ 6 ∷ [])
    ∷ until deadline_ns (codes "z") (6 ∷ 4 ∷ []) (6 ∷ 6 ∷ []) ∷ []

abbrev pub joined : ℕ → ℕ → DeclaredNetwork
joined residence_ns deadline_ns =
    declared_network (topology_of (joined_nodes residence_ns) joined_links) (joined_streams deadline_ns) []

-- with the first of them alone
abbrev pub first_alone : ℕ → ℕ → DeclaredNetwork
first_alone residence_ns deadline_ns = declared_network (topology_of (joined_nodes residence_ns) joined_links)
    (until deadline_ns (codes "a") (0 ∷ 2 ∷ 4 ∷ []) (6 ∷ 6 ∷ 6 ∷ []) ∷ []) []

-- the line with a stream that has a deadline of 60,000 ns, and with two flows; and with this stream further
abbrev pub line_with : List DeclaredStream → DeclaredNetwork
line_with others = declared_network (topology_of line_nodes line_links)
    (until 60000 (codes "a") (0 ∷ 2 ∷ []) (6 ∷ 6 ∷ []) ∷ others)
    (flow (codes "f") (0 ∷ 2 ∷ []) ∷ flow (codes "g") (3 ∷ 1 ∷ []) ∷ [])

-- a stream on the same path with frames of 64 octets, of this name and class
abbrev pub small : List ℕ → ℕ → DeclaredStream
small name class = declared_stream name (0 ∷ 2 ∷ []) (class ∷ class ∷ []) 10000000 672 64 64 1000000 None

-- a station before a bridge that takes 0 to 1500 ns to process a frame, over a link without propagation
abbrev pub at_once : DeclaredTopology
at_once = topology_of
    (station (codes "s1") ∷ record { name = codes "b1"; kind = Bridge 0 1500 1000 0 0 } ∷ [])
    (record { a = codes "s1"; b = codes "b1"; mbps = 1000; propagation_ns = 0 } ∷ [])
