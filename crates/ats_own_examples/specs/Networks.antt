use Rattle.std.specs.Prelude.{ℕ, List, [], ◌∷◌, codes, None}
use Rattle.ats_topology.specs.Topology.{topology_of}
use Rattle.ats_streams.specs.Flow.{DeclaredFlow, declared_flow}
use Rattle.ats_streams.specs.Stream.{DeclaredStream, declared_stream}
use Rattle.ats_network.specs.Network.{DeclaredNetwork, long_network}
use Rattle.ats_certificate.specs.declared.row.Row.{Row}
use Rattle.ats_examples.specs.Networks.{flow, line_links, line_nodes, nodes_with, stream}
use Rattle.ats_examples.specs.OwnFrames.{own, own_stream}
use Rattle.ats_examples.specs.Rows.{row_of_line, row_with}
use Rattle.ats_tree_examples.specs.Networks.{bridge_branches, bridge_ports, from_bridge, stream_of, tree_links}
use Rattle.ats_tree_examples.specs.Networks.{tree_nodes}
use Rattle.ats_tree_bound_examples.specs.Explained.{staying_nodes}

-- Networks in which frames begin or end at bridges, each written out once, and their certificates. `own` of
-- `ats_examples` is the line with a stream from its bridge, which has number 1, and one that ends there, which has
-- number 2; `from_bridge` and `behind_bridge` of `ats_tree_examples` have a stream from a bridge to three listeners.

-- the line, at whose bridge frames may stay for so many nanoseconds, with a stream of class 7 from s1 to the bridge and
-- a flow beside it: no frame goes on from there
abbrev pub ending : ℕ → DeclaredNetwork
ending residence_ns = long_network (topology_of (nodes_with residence_ns) line_links)
    (own_stream (codes "h") (0 ∷ []) (7 ∷ []) ∷ []) (flow (codes "f") (0 ∷ []) ∷ [])

abbrev pub ending_rows : List Row
ending_rows = row_with 0 7 0 10000000000 672 12336 672 12336000 14508000 ∷ []

-- `own`, where frames may stay at the bridge for so many nanoseconds
abbrev pub own_staying : ℕ → DeclaredNetwork
own_staying residence_ns = long_network (topology_of (nodes_with residence_ns) line_links) own.streams []

-- `from_bridge`, with this deadline in nanoseconds
abbrev pub bridge_within : ℕ → DeclaredNetwork
bridge_within deadline_ns = long_network (topology_of (tree_nodes 1000000) tree_links)
    (stream_of (codes "a") bridge_ports bridge_branches (6 ∷ []) deadline_ns ∷ []) []

-- and where frames may stay for so many nanoseconds at b3, at which one of its routes ends
abbrev pub bridge_staying : ℕ → DeclaredNetwork
bridge_staying residence_ns =
    long_network (topology_of (staying_nodes 1000000 residence_ns) tree_links) from_bridge.streams []

-- the certificates of `from_bridge` and `behind_bridge`
abbrev pub bridge_rows : List Row
bridge_rows =
    row_of_line 3 13836000 ∷ row_of_line 4 12836000 ∷ row_of_line 6 12836000 ∷ row_of_line 8 13836000 ∷ []

abbrev pub behind_rows : List Row
behind_rows =
    row_of_line 1 12836000 ∷ row_of_line 3 13836000 ∷ row_of_line 4 12836000 ∷ row_of_line 6 12836000 ∷ []

-- a stream of class 7 over one port, with a rate of 8800 b/s and a burst of one frame of 90 octets
abbrev pub local_stream : List ℕ → ℕ → ℕ → DeclaredStream
local_stream name port deadline_ns = declared_stream name (port ∷ []) (7 ∷ []) 8800 880 64 90 deadline_ns None

-- and a flow over one port
abbrev pub local_flow : List ℕ → ℕ → DeclaredFlow
local_flow name port = declared_flow name (port ∷ []) 320

-- the line, at whose bridge frames may stay for so many nanoseconds, with a stream from s1 to s2, and beside it a
-- stream and a flow over each of the four ports: those over ports 1 and 2 begin at the bridge, and those over ports 0
-- and 3 end there. The streams have numbers 1 to 4, and this deadline in nanoseconds, and the flows 5 to 8
abbrev pub local_with : ℕ → ℕ → DeclaredNetwork
local_with residence_ns deadline_ns = long_network (topology_of (nodes_with residence_ns) line_links)
    (stream (codes "a") (0 ∷ 2 ∷ [])
    ∷ local_stream (codes "g-0") 0 deadline_ns ∷ local_stream (codes "g-1") 1 deadline_ns
    ∷ local_stream (codes "g-2") 2 deadline_ns ∷ local_stream (codes "g-3") 3 deadline_ns
    ∷ [])
    (local_flow (codes "l-0") 0 ∷ local_flow (codes "l-1") 1 ∷ local_flow (codes "l-2") 2 ∷ local_flow (codes "l-3") 3
    ∷ [])

-- with a maximum residence time of 1 ms and a deadline of 1 s
abbrev pub local : DeclaredNetwork
local = local_with 1000000 1000000000

abbrev pub local_rows : List Row
local_rows =
    row_with 0 6 8800000 100000000000 13216 2720 672 15264135 17436135
    ∷ row_with 0 7 0 8800000 880 12336 672 12544000 14716000
    ∷ row_with 1 7 0 8800000 880 2720 672 2928000 4100000
    ∷ row_with 2 6 8800000 100000000000 13216 2720 672 15264135 16436135
    ∷ row_with 2 7 0 8800000 880 12336 672 12544000 13716000
    ∷ row_with 3 7 0 8800000 880 2720 672 2928000 5100000
    ∷ []

-- `own` with a flow from s2 to the bridge, of 300 octets at most, which has number 3
abbrev pub own_and_flow : DeclaredNetwork
own_and_flow = long_network (topology_of line_nodes line_links) own.streams
    (declared_flow (codes "m") (3 ∷ []) 300 ∷ [])
