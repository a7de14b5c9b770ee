use Rattle.std.specs.Prelude.{◌≡◌, ℕ, ◌+◌, ◌*◌, ◌/◌, List, [], ◌∷◌, codes}
use Rattle.ats_clock.specs.Clock.{KeepsClock, declared_clock}
use Rattle.ats_topology.specs.Topology.{topology_of}
use Rattle.ats_network.specs.Network.{DeclaredNetwork, IsNetwork, declared_network}
use Rattle.ats_trace.specs.Journey.{Travel}
use Rattle.ats_examples.specs.Networks.{line_links, stream}
use Rattle.ats_examples.specs.Runs.{hop, sunk}
use Rattle.ats_clock_examples.specs.Clocked.{IsLegalWith}
use Rattle.ats_clock_examples.specs.Needs.{staying_nodes}
use Rattle.ats_clock_examples.specs.StaysByClock.{bridge_shows, whole_burst}

-- Frames that come to one group within a tick of its clock.

-- a clock that ticks every 2 us
abbrev pub ticking_slowly : ℕ → ℕ
ticking_slowly t = 2000000 * (t / 2000000)

-- the line over a bridge with such a clock, with two streams of one class
abbrev pub shared_line : DeclaredNetwork
shared_line = declared_network (topology_of (staying_nodes 1000000 0 2000000) line_links)
    (stream (codes "a") (0 ∷ 2 ∷ []) ∷ stream (codes "b") (0 ∷ 2 ∷ []) ∷ []) []

-- a frame that is as long as the burst, and behind it a short one of the same stream, which the bridge holds until the
-- clock has ticked twice; a short frame of the other stream comes next. The bridge starts the short ones at these times
abbrev pub both_come : ℕ → ℕ → ℕ → List Travel
both_come other_eligible start other_start =
    whole_burst
    ∷ sunk 6720000 0 64 (hop 6720000 6720000 12336000 13008000 ∷ hop 14508000 18000000 start (start + 672000) ∷ [])
    (start + 1172000)
    ∷ sunk 6720001 1 64
    (hop 6720001 6720001 13008000 13680000 ∷ hop 15180000 other_eligible other_start (other_start + 672000) ∷ [])
    (other_start + 1172000)
    ∷ []

-- the clock shows the same when both short frames come. The group has them in the order in which they came, and so
-- holds the one of the other stream too, though its bucket is full; it may not let it pass as if it had come first
pub record TicksKeepOrder : Type 0 where
  pub network : IsNetwork shared_line
  pub keeps_clock : KeepsClock (declared_clock 0 2000000) ticking_slowly
  pub shown : ticking_slowly 14508000 ≡ 14000000
  pub shown_again : ticking_slowly 15180000 ≡ 14000000
  pub legal : IsLegalWith (bridge_shows ticking_slowly) shared_line (both_come 18000000 26172000 26844000)
  pub not_first : ¬ IsLegalWith (bridge_shows ticking_slowly) shared_line (both_come 15180000 26844000 26172000)
