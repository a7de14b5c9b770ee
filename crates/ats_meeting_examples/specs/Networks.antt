use Rattle.std.specs.Prelude.{List, [], ◌∷◌, codes}
use Rattle.ats_topology.specs.Topology.{topology_of}
use Rattle.ats_topology.specs.declared.node.Node.{Node}
use Rattle.ats_streams.specs.Flow.{declared_flow}
use Rattle.ats_network.specs.Network.{DeclaredNetwork, declared_network}
use Rattle.ats_examples.specs.Networks.{flow, fork, fork_links, line, line_links, line_of_classes, ranged_bridge}
use Rattle.ats_examples.specs.Networks.{ranged_nodes, station}

-- Worked networks in which frames of several senders meet at a port or on a link.

-- the line with its stream and two flows, numbers 1 and 2; a frame of the second has at most 400 octets
abbrev pub two_flows : DeclaredNetwork
two_flows = declared_network line.topology line.streams
    (flow (codes "f") (0 ∷ 2 ∷ []) ∷ declared_flow (codes "g") (0 ∷ 2 ∷ []) 400 ∷ [])

-- the fork with two flows alone, number 0 from s1 and number 1 from s3, which meet at port 2
abbrev pub fork_of_flows : DeclaredNetwork
fork_of_flows = declared_network fork.topology []
    (flow (codes "f") (0 ∷ 2 ∷ []) ∷ flow (codes "g") (4 ∷ 2 ∷ []) ∷ [])

-- the fork with its two streams, over a bridge that takes 200 to 1000 ns: a frame comes there from 700000 to 1500000 ps
-- after its end, by port 0 and by port 4
abbrev pub ranged_fork_nodes : List Node
ranged_fork_nodes =
    station (codes "s1") ∷ station (codes "s2") ∷ station (codes "s3") ∷ ranged_bridge (codes "b1") 1000000 ∷ []

abbrev pub ranged_fork : DeclaredNetwork
ranged_fork = declared_network (topology_of ranged_fork_nodes fork_links) fork.streams []

-- on the line over such a bridge a stream of class 6, one of class 5 and a flow: numbers 0, 1 and 2
abbrev pub ranged_of_three : DeclaredNetwork
ranged_of_three = declared_network (topology_of (ranged_nodes 1000000) line_links) line_of_classes.streams
    (flow (codes "f") (0 ∷ 2 ∷ []) ∷ [])
