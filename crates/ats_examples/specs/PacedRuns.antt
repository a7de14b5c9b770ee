use Rattle.std.specs.Prelude.{ℕ, ◌+◌, List, [], ◌∷◌}
use Rattle.ats_num.specs.Pace.{drawn_wait}
use Rattle.ats_num.specs.Tie.{late_key, mixed_key}
use Rattle.ats_trace.specs.Journey.{Travel}
use Rattle.ats_trace.specs.Parts.{links}
use Rattle.ats_trace.specs.Run.{IsIdeal, IsRunBy}
use Rattle.ats_examples.specs.Networks.{ranged_line, over_two_ranged}
use Rattle.ats_examples.specs.Runs.{hop, sunk}
use Rattle.ats_examples.specs.LegalRuns.{frame_key, least_wait, greatest_wait}
use Rattle.ats_examples.specs.Deviations.{BreaksAlone}

-- Runs over a bridge that takes 200 to 1000 ns to process a frame.

-- one frame, which arrives at the bridge at this time and is sent on at once; it may come from 13036000 to 13836000
abbrev pub arriving : ℕ → List Travel
arriving at =
    sunk 0 0 1522 (hop 0 0 0 12336000 ∷ hop at at at (at + 12336000) ∷ []) (at + 12836000)
    ∷ []

-- two frames at once. The first arrives as late as it may, and the second, which may come from 2044000 to 2844000, at
-- this time; it is sent on behind the first
abbrev pub second_arriving : ℕ → List Travel
second_arriving at =
    sunk 0 0 64 (hop 0 0 0 672000 ∷ hop 2172000 2172000 2172000 2844000 ∷ []) 3344000
    ∷ sunk 0 0 64 (hop 0 0 672000 1344000 ∷ hop at at 2844000 3516000 ∷ []) 4016000
    ∷ []

-- the second arrives 1 ps before the first, and is sent on before it
abbrev pub overtaking : List Travel
overtaking =
    sunk 0 0 64 (hop 0 0 0 672000 ∷ hop 2172000 2172000 2843999 3515999 ∷ []) 4015999
    ∷ sunk 0 0 64 (hop 0 0 672000 1344000 ∷ hop 2171999 2171999 2171999 2843999 ∷ []) 3343999
    ∷ []

-- one frame over two bridges: it arrives at the first as early as it may, and at the second, where it may come from
-- 26072000 to 26872000, at this time
abbrev pub arriving_next : ℕ → List Travel
arriving_next at =
    sunk 0 0 1522
    (hop 0 0 0 12336000 ∷ hop 13036000 13036000 13036000 25372000 ∷ hop at at at (at + 12336000) ∷ []) (at + 12836000)
    ∷ []

-- a frame may arrive at both ends of its interval and inside it, and as soon as the frame before it has
pub record ArrivalsAreLegal : Type 0 where
  pub earliest : IsIdeal ranged_line (arriving 13036000)
  pub inside : IsIdeal ranged_line (arriving 13036007)
  pub latest : IsIdeal ranged_line (arriving 13836000)
  pub behind : IsIdeal ranged_line (second_arriving 2172001)
  pub last : IsIdeal ranged_line (second_arriving 2844000)
  pub next_earliest : IsIdeal over_two_ranged (arriving_next 26072000)
  pub next_latest : IsIdeal over_two_ranged (arriving_next 26872000)

-- not 1 ps outside the interval, and neither with the frame before it nor before that
pub record ArrivalsBreakLinks : Type 0 where
  pub early : BreaksAlone links ranged_line (arriving 13035999)
  pub late : BreaksAlone links ranged_line (arriving 13836001)
  pub next_early : BreaksAlone links over_two_ranged (arriving_next 26071999)
  pub next_late : BreaksAlone links over_two_ranged (arriving_next 26872001)
  pub together : BreaksAlone links ranged_line (second_arriving 2172000)
  pub overtaking : BreaksAlone links ranged_line overtaking

-- which of them are runs by a pace: a frame arrives its wait after the earliest moment, or a picosecond after the frame
-- before it
pub record ArrivalsByPace : Type 0 where
  pub least : IsRunBy frame_key least_wait ranged_line (arriving 13036000)
  pub greatest : IsRunBy late_key greatest_wait ranged_line (arriving 13836000)
  pub drawn : IsRunBy (mixed_key 7) (drawn_wait 7) ranged_line (arriving 13036007)
  pub in_order : IsRunBy (mixed_key 800000) (drawn_wait 800000) ranged_line (second_arriving 2172001)
  pub not_least : ¬ IsRunBy frame_key least_wait ranged_line (arriving 13036001)
  pub not_greatest : ¬ IsRunBy late_key greatest_wait ranged_line (arriving 13835999)
  pub not_drawn : ¬ IsRunBy (mixed_key 7) (drawn_wait 7) ranged_line (arriving 13036008)
  pub not_in_order : ¬ IsRunBy (mixed_key 800000) (drawn_wait 800000) ranged_line (second_arriving 2172002)
