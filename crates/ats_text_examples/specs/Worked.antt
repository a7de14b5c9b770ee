use Rattle.std.specs.Prelude.{ℕ, List, [], ◌∷◌, codes, None}
use Rattle.ats_topology.specs.Topology.{topology_of}
use Rattle.ats_topology.specs.declared.node.Node.{Node}
use Rattle.ats_topology.specs.declared.node.Kind.TheVariants.{Station, Bridge}
use Rattle.ats_topology.specs.declared.link.Link.{Link}
use Rattle.ats_streams.specs.Stream.{DeclaredStream, declared_stream}
use Rattle.ats_streams.specs.Flow.{DeclaredFlow, declared_flow}
use Rattle.ats_network.specs.Network.{DeclaredNetwork, declared_network}

-- The worked network, whose numbers differ.

-- two stations, and two bridges between them, of which the first may have a residence of so many nanoseconds. Both take
-- from a least to a greatest time to process a frame
abbrev pub way_nodes : ℕ → List Node
way_nodes residence_ns =
    record { name = codes "s1"; kind = Station } ∷ record { name = codes "s2"; kind = Station }
    ∷ record { name = codes "b1"; kind = Bridge 700 1500 residence_ns 0 0 }
    ∷ record { name = codes "b2"; kind = Bridge 2100 2400 20000 0 0 } ∷ []

abbrev pub way_links : List Link
way_links =
    record { a = codes "s1"; b = codes "b1"; mbps = 1000; propagation_ns = 100 }
    ∷ record { a = codes "b1"; b = codes "b2"; mbps = 2500; propagation_ns = 230 }
    ∷ record { a = codes "b2"; b = codes "s2"; mbps = 100; propagation_ns = 45 } ∷ []

-- a stream whose class falls along its path, one of one class, which may have a deadline of so many nanoseconds, and a
-- flow
abbrev pub u : DeclaredStream
u = declared_stream (codes "u") (0 ∷ 2 ∷ 4 ∷ []) (6 ∷ 5 ∷ 4 ∷ []) 20000000 9001 64 1000 900000 None

abbrev pub v : ℕ → DeclaredStream
v deadline_ns = declared_stream (codes "v") (0 ∷ 2 ∷ 4 ∷ []) (5 ∷ 5 ∷ 5 ∷ []) 30000000 10003 100 1200 deadline_ns None

abbrev pub f : DeclaredFlow
f = declared_flow (codes "f") (0 ∷ 2 ∷ 4 ∷ []) 1400

abbrev pub way_with : ℕ → ℕ → DeclaredNetwork
way_with residence_ns deadline_ns =
    declared_network (topology_of (way_nodes residence_ns) way_links) (u ∷ v deadline_ns ∷ []) (f ∷ [])

-- where the second stream is late, and may have to stay in the first bridge for too long; and where neither is so
abbrev pub way : DeclaredNetwork
way = way_with 30000 200000

abbrev pub wide : DeclaredNetwork
wide = way_with 40000 300000
