use Rattle.std.specs.Prelude.{◌≡◌, ℕ, List, [], ◌∷◌, ◌++◌, codes}
use Rattle.ats_clock.specs.Clock.{KeepsClock, declared_clock}
use Rattle.ats_clock.specs.Rates.{committed}
use Rattle.ats_clock_law.specs.Examples.{ticking}
use Rattle.ats_topology.specs.Topology.{topology_of}
use Rattle.ats_topology.specs.declared.link.Link.{Link}
use Rattle.ats_topology.specs.declared.node.Node.{Node}
use Rattle.ats_network.specs.Network.{DeclaredNetwork, IsNetwork, declared_network}
use Rattle.ats_network.specs.Rates.{scheduled_at}
use Rattle.ats_network.specs.Senders.{sender_at}
use Rattle.ats_trace.specs.Clocks.{IsLegal}
use Rattle.ats_trace.specs.Journey.{Travel}
use Rattle.ats_trace.specs.Run.{IsIdeal}
use Rattle.ats_examples.specs.ClockedRuns.{slow}
use Rattle.ats_examples.specs.Networks.{fork_links, line_links, link, station, stream}
use Rattle.ats_examples.specs.Runs.{hop, sunk}
use Rattle.ats_examples.specs.SlowClocks.{slow_bridge}
use Rattle.ats_clock_examples.specs.Clocked.{IsLegalWith, true_time}
use Rattle.ats_clock_examples.specs.Needs.{clocked_bridge}
use Rattle.ats_clock_examples.specs.Overtaken.{ticking_bridge}

-- Runs in which two bridges go by different clocks.

-- two lines side by side, each of two stations and one of these bridges, and a link between the bridges: port 0 leads
-- from s1 to the first bridge and port 2 from there to s2, port 4 from s3 to the second one and port 6 from there to s4
abbrev pub side_by_side_nodes : Node → Node → List Node
side_by_side_nodes first second =
    station (codes "s1") ∷ station (codes "s2") ∷ station (codes "s3") ∷ station (codes "s4") ∷ first ∷ second ∷ []

abbrev pub side_by_side_links : List Link
side_by_side_links = line_links ++ link (codes "s3") (codes "b2") ∷ link (codes "b2") (codes "s4")
    ∷ link (codes "b1") (codes "b2") ∷ []

-- with a stream over each, which have numbers 0 and 1
abbrev pub side_by_side : Node → Node → DeclaredNetwork
side_by_side first second = declared_network (topology_of (side_by_side_nodes first second) side_by_side_links)
    (stream (codes "a") (0 ∷ 2 ∷ []) ∷ stream (codes "b") (4 ∷ 6 ∷ []) ∷ []) []

-- the stations read true time, and the bridges, the last two nodes, go by these clocks
abbrev pub bridges_show : (ℕ → ℕ) → (ℕ → ℕ) → List (ℕ → ℕ)
bridges_show first second = true_time ∷ true_time ∷ true_time ∷ true_time ∷ first ∷ second ∷ []

-- on both lines the same frames at the same times, but for one: each bridge holds the second frame until its own time
abbrev pub both_held : ℕ → ℕ → List Travel
both_held first second =
    sunk 0 0 1522 (hop 0 0 0 12336000 ∷ hop 13836000 13836000 13836000 26172000 ∷ []) 26672000
    ∷ sunk 0 1 1522 (hop 0 0 0 12336000 ∷ hop 13836000 13836000 13836000 26172000 ∷ []) 26672000
    ∷ sunk 6720000 0 64 (hop 6720000 6720000 12336000 13008000 ∷ hop 14508000 first 26172000 26844000 ∷ []) 27344000
    ∷ sunk 6720000 1 64 (hop 6720000 6720000 12336000 13008000 ∷ hop 14508000 second 26172000 26844000 ∷ []) 27344000
    ∷ []

-- where both bridges declare the same of their clocks
abbrev pub slow_lines : DeclaredNetwork
slow_lines = side_by_side (slow_bridge (codes "b1")) (slow_bridge (codes "b2"))

-- the one may be slow and the other show true time, and the other way round. Where both show the same no clock makes
-- the run legal, since both have the same frames at the same times
pub record EachHasItsClock : Type 0 where
  pub network : IsNetwork slow_lines
  pub first_slow : IsLegalWith (bridges_show slow true_time) slow_lines (both_held 20546000 20545329)
  pub second_slow : IsLegalWith (bridges_show true_time slow) slow_lines (both_held 20545329 20546000)
  pub both_slow : IsLegalWith (bridges_show slow slow) slow_lines (both_held 20546000 20546000)
  pub not_by_one : (legal : IsLegal slow_lines (both_held 20546000 20545329))
      → ¬ ((t : ℕ) → legal.clocks 4 t ≡ legal.clocks 5 t)
  pub not_ideal : ¬ IsIdeal slow_lines (both_held 20546000 20545329)

-- a bridge whose clock deviates by 100 parts in a million at most and never steps by more than a picosecond
abbrev pub deviating_bridge : List ℕ → Node
deviating_bridge name = clocked_bridge name 1000000 100 1

-- where the clock of the first is such a one, and that of the second never deviates and ticks every 8 ns
abbrev pub unlike_lines : DeclaredNetwork
unlike_lines = side_by_side (deviating_bridge (codes "b1")) (ticking_bridge (codes "b2"))

-- each clock keeps what its own bridge declares, and not what the other one does; and each bridge's scheduler has what
-- its own clock asks for
pub record EachDeclaresItsClock : Type 0 where
  pub network : IsNetwork unlike_lines
  pub first_keeps : KeepsClock (declared_clock 100 1) slow
  pub second_keeps : KeepsClock (declared_clock 0 8000) ticking
  pub not_second : ¬ KeepsClock (declared_clock 0 8000) slow
  pub not_first : ¬ KeepsClock (declared_clock 100 1) ticking
  pub first_scheduler : scheduled_at unlike_lines.topology 0 (sender_at unlike_lines 0) ≡ committed 100010002 12337
  pub second_scheduler : scheduled_at unlike_lines.topology 4 (sender_at unlike_lines 1) ≡ committed 100000000 12337
  pub legal : IsLegalWith (bridges_show slow ticking) unlike_lines (both_held 20546000 20544000)
  pub not_turned : ¬ IsLegalWith (bridges_show ticking slow) unlike_lines (both_held 20544000 20546000)

-- the fork over one such bridge, where the frames of both streams leave by one port
abbrev pub slow_fork_nodes : List Node
slow_fork_nodes =
    station (codes "s1") ∷ station (codes "s2") ∷ station (codes "s3") ∷ slow_bridge (codes "b1") ∷ []

abbrev pub slow_fork : DeclaredNetwork
slow_fork = declared_network (topology_of slow_fork_nodes fork_links)
    (stream (codes "a") (0 ∷ 2 ∷ []) ∷ stream (codes "b") (4 ∷ 2 ∷ []) ∷ []) []

-- the same frames, which the bridge holds until these times
abbrev pub held_at_fork : ℕ → ℕ → List Travel
held_at_fork first second =
    sunk 0 0 1522 (hop 0 0 0 12336000 ∷ hop 13836000 13836000 13836000 26172000 ∷ []) 26672000
    ∷ sunk 0 1 1522 (hop 0 0 0 12336000 ∷ hop 13836000 13836000 26172000 38508000 ∷ []) 39008000
    ∷ sunk 6720000 0 64 (hop 6720000 6720000 12336000 13008000 ∷ hop 14508000 first 38508000 39180000 ∷ []) 39680000
    ∷ sunk 6720000 1 64 (hop 6720000 6720000 12336000 13008000 ∷ hop 14508000 second 39180000 39852000 ∷ []) 40352000
    ∷ []

-- both groups of the bridge go by its one clock, slow or true: they hold these frames until one time
pub record BothGroupsHaveOneClock : Type 0 where
  pub network : IsNetwork slow_fork
  pub slow : IsLegalWith (true_time ∷ true_time ∷ true_time ∷ slow ∷ []) slow_fork (held_at_fork 20546000 20546000)
  pub in_true_time : IsLegalWith [] slow_fork (held_at_fork 20545329 20545329)
  pub not_by_two : ¬ IsLegal slow_fork (held_at_fork 20546000 20545329)
