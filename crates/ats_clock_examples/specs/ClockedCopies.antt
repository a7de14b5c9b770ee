use Rattle.std.specs.Prelude.{◌≡◌, ℕ, List, [], ◌∷◌, codes}
use Rattle.ats_clock.specs.Clock.{KeepsClock, declared_clock}
use Rattle.ats_clock.specs.Rates.{committed}
use Rattle.ats_clock_law.specs.Examples.{ticking}
use Rattle.ats_topology.specs.Topology.{topology_of}
use Rattle.ats_topology.specs.declared.node.Node.{Node}
use Rattle.ats_network.specs.Network.{DeclaredNetwork, IsNetwork, long_network}
use Rattle.ats_network.specs.Rates.{scheduled_at}
use Rattle.ats_network.specs.Senders.{sender_at}
use Rattle.ats_trace.specs.Journey.{Travel}
use Rattle.ats_trace.specs.Run.{IsIdeal}
use Rattle.ats_examples.specs.ClockedRuns.{slow}
use Rattle.ats_examples.specs.Networks.{station}
use Rattle.ats_examples.specs.Runs.{hop, sunk}
use Rattle.ats_tree_examples.specs.Networks.{branch, branch_ranged_links, stream}
use Rattle.ats_tree_examples.specs.Runs.{copied, copy}
use Rattle.ats_clock_examples.specs.Clocked.{IsLegalWith, true_time}
use Rattle.ats_clock_examples.specs.Overtaken.{ticking_bridge}
use Rattle.ats_clock_examples.specs.TwoClocks.{deviating_bridge}

-- A frame that goes on by two ports of a bridge, and whose copy comes to another bridge, where both have clocks.

-- port 0 leads from s1 to b1, port 2 from there to s2, port 4 to b2, and port 6 from there to s3. The clock of b1
-- deviates, and that of b2 ticks
abbrev pub branching_nodes : List Node
branching_nodes =
    station (codes "s1") ∷ station (codes "s2") ∷ station (codes "s3")
    ∷ deviating_bridge (codes "b1") ∷ ticking_bridge (codes "b2") ∷ []

-- with a stream from s1 to s2 and to s3
abbrev pub branching : DeclaredNetwork
branching = long_network (topology_of branching_nodes branch_ranged_links)
    (stream (codes "a") (0 ∷ 2 ∷ 4 ∷ 6 ∷ []) (branch 2 0 1 ∷ []) ∷ []) []

-- its nodes go by these clocks
abbrev pub each_shows : List (ℕ → ℕ)
each_shows = true_time ∷ true_time ∷ true_time ∷ slow ∷ ticking ∷ []

-- a frame as long as the burst, and a short one behind it, with their copies. The first bridge holds the short one for
-- both ports until this time, and the second one its copy until that
abbrev pub held_twice : ℕ → ℕ → List Travel
held_twice at_first at_second =
    copied (sunk 0 0 1522 (hop 0 0 0 12336000 ∷ hop 13836000 13836000 13836000 26172000 ∷ []) 26672000)
    (copy (hop 13836000 13836000 13836000 26172000 ∷ hop 27672000 27672000 27672000 40008000 ∷ []) 40508000 ∷ [])
    ∷ copied
    (sunk 6720000 0 64 (hop 6720000 6720000 12336000 13008000 ∷ hop 14508000 at_first 26172000 26844000 ∷ []) 27344000)
    (copy (hop 14508000 at_first 26172000 26844000 ∷ hop 28344000 at_second 40008000 40680000 ∷ []) 41180000 ∷ [])
    ∷ []

-- the frame is held by the first bridge's clock for both ports, and its copy by the second one's, which shows the time
-- that it told the copy when it ticks next; in true time that is 7337 ps later. By true time the first bridge would
-- have held the frame 671 ps less
pub record CopiesGoByClocks : Type 0 where
  pub network : IsNetwork branching
  pub first_keeps : KeepsClock (declared_clock 100 1) slow
  pub second_keeps : KeepsClock (declared_clock 0 8000) ticking
  pub first_scheduler : scheduled_at branching.topology 0 (sender_at branching 0) ≡ committed 100010002 12337
  pub second_scheduler : scheduled_at branching.topology 4 (sender_at branching 0) ≡ committed 100020004 12339
  pub legal : IsLegalWith each_shows branching (held_twice 20546000 34368000)
  pub not_between_ticks : ¬ IsLegalWith each_shows branching (held_twice 20546000 34360663)
  pub not_sooner : ¬ IsLegalWith each_shows branching (held_twice 20545329 34368000)
  pub not_ideal : ¬ IsIdeal branching (held_twice 20546000 34368000)
