use Rattle.std.specs.Prelude.{ℕ, List, [], ◌∷◌, ◌++◌, codes}
use Rattle.ats_topology.specs.Topology.{topology_of}
use Rattle.ats_topology.specs.declared.node.Node.{Node}
use Rattle.ats_network.specs.Network.{DeclaredNetwork, IsNetwork, declared_network}
use Rattle.ats_trace.specs.Journey.{Travel}
use Rattle.ats_trace.specs.Parts.{groups}
use Rattle.ats_trace.specs.Run.{IsIdeal}
use Rattle.ats_examples.specs.Deviations.{BreaksAlone}
use Rattle.ats_examples.specs.Networks.{bridge, fork_links, station, stream}
use Rattle.ats_examples.specs.Runs.{hop, regulated, sunk}

-- Two streams of one class that come by one port and go on by two.

abbrev pub parted_nodes : List Node
parted_nodes =
    station (codes "s1") ∷ station (codes "s2") ∷ station (codes "s3") ∷ bridge (codes "b1") 1000000 ∷ []

-- from s1 the first stream goes on to s2, over port 2, and the second to s3, over port 5
abbrev pub parted : DeclaredNetwork
parted = declared_network (topology_of parted_nodes fork_links)
    (stream (codes "a") (0 ∷ 2 ∷ []) ∷ stream (codes "b") (0 ∷ 5 ∷ []) ∷ []) []

-- two frames of the first stream, the second of which is held back at the bridge, and one of the other stream, which is
-- eligible at the bridge at this time and sent at once
abbrev pub behind_held : ℕ → ℕ → ℕ → List Travel
behind_held eligible end sinks = regulated
    ++ sunk 0 1 64 (hop 0 0 24672000 25344000 ∷ hop 26844000 eligible eligible end ∷ []) sinks ∷ []

-- the frame of the other stream waits for the one that is held back, though they part there. Refuses a group for each
-- next port, by which it would be eligible at its arrival
pub record GroupsCrossPorts : Type 0 where
  pub rules : IsNetwork parted
  pub held : IsIdeal parted (behind_held 137196000 137868000 138368000)
  pub at_arrival : BreaksAlone groups parted (behind_held 26844000 27516000 28016000)
