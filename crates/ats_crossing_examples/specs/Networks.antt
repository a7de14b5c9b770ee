use Rattle.std.specs.Prelude.{List, [], ◌∷◌, codes}
use Rattle.ats_topology.specs.Topology.{topology_of}
use Rattle.ats_topology.specs.declared.node.Node.{Node}
use Rattle.ats_streams.specs.Flow.{declared_flow}
use Rattle.ats_network.specs.Network.{DeclaredNetwork, IsNetwork, long_network}
use Rattle.ats_examples.specs.Networks.{bridge, line_links, ranged_bridge, ranged_nodes, station, stream, two_links}
use Rattle.ats_examples.specs.OwnFrames.{own_stream}

-- Two networks with a bridge that takes 200 to 1000 ns to process a frame, behind a port that has an earliest latency
-- of 700000 ps and a latency of 1500000 ps.

-- the line over such a bridge, at which a frame may stay for 12464 ns: a stream from s1 to s2, and a stream and a flow
-- from s1 to the bridge, numbers 0, 1 and 2
abbrev pub paced : DeclaredNetwork
paced = long_network (topology_of (ranged_nodes 12464) line_links)
    (stream (codes "a") (0 ∷ 2 ∷ []) ∷ own_stream (codes "h") (0 ∷ []) (7 ∷ []) ∷ [])
    (declared_flow (codes "m") (0 ∷ []) 300 ∷ [])

-- two bridges between two stations, of which the second is such a one
abbrev pub crossed_nodes : List Node
crossed_nodes =
    station (codes "s1") ∷ station (codes "s2")
    ∷ bridge (codes "b1") 1000000 ∷ ranged_bridge (codes "b2") 1000000 ∷ []

-- with a stream from end to end and one of the same class that the first bridge sends to s2, with a rate of 10 Mb/s and
-- small frames, of which one is its burst; a stream that the second bridge sends to s2, and a flow that the first one
-- does. They have numbers 0 to 3
abbrev pub crossed : DeclaredNetwork
crossed = long_network (topology_of crossed_nodes two_links)
    (stream (codes "a") (0 ∷ 2 ∷ 4 ∷ []) ∷ own_stream (codes "g") (2 ∷ 4 ∷ []) (6 ∷ 6 ∷ [])
    ∷ own_stream (codes "k") (4 ∷ []) (7 ∷ [])
    ∷ [])
    (declared_flow (codes "l") (2 ∷ 4 ∷ []) 320 ∷ [])

-- both keep the rules for networks
pub record NetworksAreRight : Type 0 where
  pub paced : IsNetwork paced
  pub crossed : IsNetwork crossed
