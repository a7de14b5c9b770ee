use Rattle.std.specs.Prelude.{◌≡◌, List, [], ◌∷◌, codes, Some, None}
use Rattle.ats_topology.specs.Topology.{DeclaredTopology, IsTopology, topology_of}
use Rattle.ats_topology.specs.Walks.{IsWalk, IsLeastWalk, NoWalk}
use Rattle.ats_topology.specs.declared.link.Link.{Link}
use Rattle.ats_topology.specs.declared.node.Node.{Node}
use Rattle.ats_network.specs.Shortest.{shortest_of}
use Rattle.ats_examples.specs.Networks.{station, bridge, link}

-- Walks around a ring of bridges, and between lines that do not meet.

-- b1, b2, b4 and b3 are a ring: port 0 leads from s1 to b1, ports 2 and 4 from there to b2 and b3, ports 6 and 8 from
-- these to b4, and port 10 from b4 to s2
abbrev pub ring_nodes : List Node
ring_nodes =
    station (codes "s1") ∷ station (codes "s2") ∷ bridge (codes "b1") 1000000 ∷ bridge (codes "b2") 1000000
    ∷ bridge (codes "b3") 1000000 ∷ bridge (codes "b4") 1000000 ∷ []

abbrev pub ring_links : List Link
ring_links =
    link (codes "s1") (codes "b1") ∷ link (codes "b1") (codes "b2") ∷ link (codes "b1") (codes "b3")
    ∷ link (codes "b2") (codes "b4") ∷ link (codes "b3") (codes "b4") ∷ link (codes "b4") (codes "s2") ∷ []

abbrev pub ring : DeclaredTopology
ring = topology_of ring_nodes ring_links

-- the same ring, where the link from b1 to b3 is told before the one to b2, and is of 10 Mb/s: ports 2 and 4 lead from
-- b1 to b3 and b2, and ports 6 and 8 from b2 and b3 to b4
abbrev pub turned_links : List Link
turned_links =
    link (codes "s1") (codes "b1")
    ∷ record { a = codes "b1"; b = codes "b3"; mbps = 10; propagation_ns = 500 }
    ∷ link (codes "b1") (codes "b2") ∷ link (codes "b2") (codes "b4") ∷ link (codes "b3") (codes "b4")
    ∷ link (codes "b4") (codes "s2") ∷ []

abbrev pub turned : DeclaredTopology
turned = topology_of ring_nodes turned_links

-- of the two shortest walks around it the one over b3 is found: the first port in which they differ has the lesser
-- number, though b3 stands behind b2, the link to it is slower, and the walk over b2 goes on by the lesser port.
-- Refuses an order of walks by nodes, by rates, or from the end
pub record PortsDecide : Type 0 where
  pub rules : IsTopology turned
  pub found : shortest_of turned 0 1 ≡ Some (0 ∷ 2 ∷ 8 ∷ 10 ∷ [])
  pub least : IsLeastWalk turned.ports 0 1 (0 ∷ 2 ∷ 8 ∷ 10 ∷ [])
  pub as_short : IsWalk turned.ports 0 1 (0 ∷ 4 ∷ 6 ∷ 10 ∷ [])
  pub not_least : ¬ IsLeastWalk turned.ports 0 1 (0 ∷ 4 ∷ 6 ∷ 10 ∷ [])

-- two links that have no node in common: ports 0 and 1 are between s1 and b1, and ports 2 and 3 between s2 and b2
abbrev pub apart_nodes : List Node
apart_nodes =
    station (codes "s1") ∷ station (codes "s2") ∷ bridge (codes "b1") 1000000 ∷ bridge (codes "b2") 1000000 ∷ []

abbrev pub apart_links : List Link
apart_links = link (codes "s1") (codes "b1") ∷ link (codes "s2") (codes "b2") ∷ []

abbrev pub apart : DeclaredTopology
apart = topology_of apart_nodes apart_links

-- of the two shortest walks from s1 to s2 the one over b2 is found, which is the least; the one over b3 is as short and
-- not the least, and so is none that goes back first. Where lines do not meet, nothing is found, and there is no walk
pub record WalksAreMet : Type 0 where
  pub rules : IsTopology ring
  pub found : shortest_of ring 0 1 ≡ Some (0 ∷ 2 ∷ 6 ∷ 10 ∷ [])
  pub least : IsLeastWalk ring.ports 0 1 (0 ∷ 2 ∷ 6 ∷ 10 ∷ [])
  pub as_short : IsWalk ring.ports 0 1 (0 ∷ 4 ∷ 8 ∷ 10 ∷ [])
  pub not_least : ¬ IsLeastWalk ring.ports 0 1 (0 ∷ 4 ∷ 8 ∷ 10 ∷ [])
  pub longer : IsWalk ring.ports 0 1 (0 ∷ 1 ∷ 0 ∷ 2 ∷ 6 ∷ 10 ∷ [])
  pub not_shortest : ¬ IsLeastWalk ring.ports 0 1 (0 ∷ 1 ∷ 0 ∷ 2 ∷ 6 ∷ 10 ∷ [])
  pub rules_apart : IsTopology apart
  pub nothing : shortest_of apart 0 1 ≡ None
  pub no_walk : NoWalk apart.ports 0 1
  pub ports : PortsDecide
