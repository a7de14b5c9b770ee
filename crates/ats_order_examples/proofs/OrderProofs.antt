use Rattle.std.proofs.Common.{◌≡◌, ℕ, ◌<◌, ◌≤◌, get_or, refl, arith, lit<, lit≤}
use Rattle.ats_port_rule.specs.PortRule.{IsAhead}
use Rattle.ats_trace.specs.Parts.{Keeps, chosen}
use Rattle.ats_trace.specs.Projections.{sent_by}
use Rattle.ats_trace.specs.Run.{IsRunBy}
use Rattle.ats_examples.specs.Networks.{line_and_flow, line_of_bursts, line_of_classes, line_of_two, over_two_ranged}
use Rattle.ats_examples.specs.LegalRuns.{descending_key, frame_key, least_wait}
use Rattle.ats_examples.specs.PacedRuns.{arriving_next}
use Rattle.ats_examples.specs.Runs.{out_of_order}
use Rattle.ats_examples.proofs.ChangeProofs.{no_crossing, no_transmission}
use Rattle.ats_examples.proofs.LegalProofs.{run_by}
use Rattle.ats_examples.proofs.PartTest.{legal_by, others_by}
use Rattle.ats_order_examples.specs.Orders.{JustEligibleCounts, OrdersAreEverywhere, OrdersAreKept, RunsNeedNoOrder}
use Rattle.ats_order_examples.specs.Orders.{just_released, late_then_early, later_goes_first}

-- Orders of runs by computation.

-- frame 1 starts first, so its key would have to be the lesser
not_at_station : ¬ IsRunBy frame_key least_wait line_of_bursts out_of_order
not_at_station h =
    let first : 1 < 0 =
    h.tie 0 (lit< tt) 1 no_transmission (lit< tt) 0 no_transmission (lit< tt) refl refl (lit< tt) in
    absurd (omega arith)

not_between_bridges : ¬ IsRunBy frame_key least_wait over_two_ranged (arriving_next 26072001)
not_between_bridges h =
    let due : ◌≡◌ {A = ℕ} 26072001 26072000 = h.pace 2 (lit< tt) 0 no_crossing (lit< tt) in
    absurd (omega arith)

orders_are_everywhere : OrdersAreEverywhere
orders_are_everywhere = record {
  at_station = not_at_station;
  of_other_key = run_by descending_key least_wait line_of_bursts out_of_order refl refl refl;
  between_bridges = not_between_bridges;
  of_other_pace = legal_by over_two_ranged (arriving_next 26072001) refl;
  in_time = run_by frame_key least_wait over_two_ranged (arriving_next 26072000) refl refl refl;
}

runs_need_no_order : RunsNeedNoOrder
runs_need_no_order = record {
  tie = legal_by (line_of_two 1000000) later_goes_first refl;
  pace = legal_by over_two_ranged late_then_early refl;
}

-- the second frame starts when the third becomes eligible, which has the higher class
not_behind_flow : ¬ Keeps chosen line_and_flow (just_released 672000 1344000)
not_behind_flow keeps =
    let ahead : IsAhead (get_or (sent_by line_and_flow (just_released 672000 1344000) 0) 1 no_transmission)
    (get_or (sent_by line_and_flow (just_released 672000 1344000) 0) 2 no_transmission)
    = keeps 0 (lit< tt) 1 no_transmission (lit< tt) 2 no_transmission (lit< tt) (lit< tt) (lit≤ tt) in
    let class : 6 ≤ 0 = ahead.class in
    absurd (omega arith)

not_behind_class : ¬ Keeps chosen line_of_classes (just_released 672000 1344000)
not_behind_class keeps =
    let ahead : IsAhead (get_or (sent_by line_of_classes (just_released 672000 1344000) 0) 1 no_transmission)
    (get_or (sent_by line_of_classes (just_released 672000 1344000) 0) 2 no_transmission)
    = keeps 0 (lit< tt) 1 no_transmission (lit< tt) 2 no_transmission (lit< tt) (lit< tt) (lit≤ tt) in
    let class : 6 ≤ 5 = ahead.class in
    absurd (omega arith)

just_eligible_counts : JustEligibleCounts
just_eligible_counts = record {
  behind_flow = record {
    broken = not_behind_flow;
    others = others_by chosen line_and_flow (just_released 672000 1344000) refl;
  };
  before_flow = legal_by line_and_flow (just_released 1344000 672000) refl;
  behind_class = record {
    broken = not_behind_class;
    others = others_by chosen line_of_classes (just_released 672000 1344000) refl;
  };
  before_class = legal_by line_of_classes (just_released 1344000 672000) refl;
}

pub orders_are_kept : OrdersAreKept
orders_are_kept = record {
  everywhere = orders_are_everywhere;
  none_needed = runs_need_no_order;
  just_eligible = just_eligible_counts;
}
