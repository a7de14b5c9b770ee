use Rattle.std.specs.Prelude.{ℕ, ◌++◌, List, [], ◌∷◌}
use Rattle.ats_trace.specs.Journey.{Travel}
use Rattle.ats_trace.specs.Parts.{chosen}
use Rattle.ats_trace.specs.Run.{IsIdeal, IsRunBy}
use Rattle.ats_examples.specs.BrokenRuns.{small}
use Rattle.ats_examples.specs.Deviations.{BreaksAlone}
use Rattle.ats_examples.specs.Networks.{line_and_flow, line_of_bursts, line_of_classes, line_of_two, over_two_ranged}
use Rattle.ats_examples.specs.LegalRuns.{descending_key, frame_key, least_wait}
use Rattle.ats_examples.specs.PacedRuns.{arriving_next}
use Rattle.ats_examples.specs.Runs.{hop, out_of_order, regulated, sunk}

-- Orders of runs at ports of each kind: those that leave a station, and those that leave a bridge.

-- by an order a station too sends the earlier of two frames first, and a frame takes its time between two bridges too;
-- without that order both runs are legal
pub record OrdersAreEverywhere : Type 0 where
  pub at_station : ¬ IsRunBy frame_key least_wait line_of_bursts out_of_order
  pub of_other_key : IsRunBy descending_key least_wait line_of_bursts out_of_order
  pub between_bridges : ¬ IsRunBy frame_key least_wait over_two_ranged (arriving_next 26072001)
  pub of_other_pace : IsIdeal over_two_ranged (arriving_next 26072001)
  pub in_time : IsRunBy frame_key least_wait over_two_ranged (arriving_next 26072000)

-- behind two frames that make a group wait, two small ones of another stream, eligible together with the second of
-- these; the bridge sends the later of them first
abbrev pub later_goes_first : List Travel
later_goes_first = regulated
    ++ sunk 0 1 64 (hop 0 0 24672000 25344000 ∷ hop 26844000 137196000 150204000 150876000 ∷ []) 151376000
    ∷ sunk 0 1 64 (hop 0 0 25344000 26016000 ∷ hop 27516000 137196000 149532000 150204000 ∷ []) 150704000
    ∷ []

-- a frame that comes as late as it may to the first of two bridges, and as early to the second
abbrev pub late_then_early : List Travel
late_then_early =
    sunk 0 0 1522
    (hop 0 0 0 12336000 ∷ hop 13836000 13836000 13836000 26172000 ∷ hop 26872000 26872000 26872000 39208000 ∷ [])
    39708000
    ∷ []

-- a legal run keeps no order of these: a bridge may break a tie of one sender's frames otherwise than by their numbers,
-- and a frame may wait less at its second bridge than at its first
pub record RunsNeedNoOrder : Type 0 where
  pub tie : IsIdeal (line_of_two 1000000) later_goes_first
  pub pace : IsIdeal over_two_ranged late_then_early

-- two frames of the lower class of a network wait at the station, and one of the higher is released when the first of
-- them ends; the station sends the second of them, and the other, at these times
abbrev pub just_released : ℕ → ℕ → List Travel
just_released second other = small 1 0 0 ∷ small 1 0 second ∷ small 0 672000 other ∷ []

-- a port that is just through with a frame chooses among those that become eligible at that moment too
pub record JustEligibleCounts : Type 0 where
  pub behind_flow : BreaksAlone chosen line_and_flow (just_released 672000 1344000)
  pub before_flow : IsIdeal line_and_flow (just_released 1344000 672000)
  pub behind_class : BreaksAlone chosen line_of_classes (just_released 672000 1344000)
  pub before_class : IsIdeal line_of_classes (just_released 1344000 672000)

pub record OrdersAreKept : Type 0 where
  pub everywhere : OrdersAreEverywhere
  pub none_needed : RunsNeedNoOrder
  pub just_eligible : JustEligibleCounts
