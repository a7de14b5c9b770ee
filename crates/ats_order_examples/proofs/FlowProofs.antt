use Rattle.std.proofs.Common.{◌≡◌, ℕ, ◌+◌, ◌<◌, ◌≤◌, get_or, refl, arith, lit<, lit≤}
use Rattle.ats_port_rule.specs.PortRule.{IsAhead}
use Rattle.ats_trace.specs.Links.{KeepsTimes}
use Rattle.ats_trace.specs.Parts.{Keeps, chosen, links}
use Rattle.ats_trace.specs.Projections.{sent_by}
use Rattle.ats_trace.specs.Run.{IsRunBy}
use Rattle.ats_examples.specs.LegalRuns.{descending_key, frame_key, least_wait}
use Rattle.ats_examples.specs.Networks.{line_and_flow}
use Rattle.ats_examples.proofs.ChangeProofs.{no_crossing, no_transmission}
use Rattle.ats_examples.proofs.LegalProofs.{run_by}
use Rattle.ats_examples.proofs.LegalTest.{times_by}
use Rattle.ats_examples.proofs.PartTest.{legal_by, others_by}
use Rattle.ats_order_examples.specs.Flows.{FlowsAreKept, FlowsAreSentInOrder, FlowsArriveByPace, FlowsArriveInOrder}
use Rattle.ats_order_examples.specs.Flows.{arriving, late_of_flow, later_of_flow_first, overtaking, pair_of_flow}
use Rattle.ats_order_examples.specs.Flows.{ranged_flow, second_of_flow, together}

-- Frames of flows by computation.

not_chosen : ¬ Keeps chosen line_and_flow later_of_flow_first
not_chosen keeps =
    let ahead : IsAhead (get_or (sent_by line_and_flow later_of_flow_first 0) 2 no_transmission)
    (get_or (sent_by line_and_flow later_of_flow_first 0) 1 no_transmission)
    = keeps 0 (lit< tt) 2 no_transmission (lit< tt) 1 no_transmission (lit< tt) (lit< tt) (lit≤ tt) in
    let earlier : 2 ≤ 1 = ahead.no_later refl in
    absurd (omega arith)

not_turned : ¬ IsRunBy frame_key least_wait line_and_flow (together 672000 0)
not_turned h =
    let first : 1 < 0 =
    h.tie 0 (lit< tt) 1 no_transmission (lit< tt) 0 no_transmission (lit< tt) refl refl (lit< tt) in
    absurd (omega arith)

sent_in_order : FlowsAreSentInOrder
sent_in_order = record {
  chosen = record { broken = not_chosen; others = others_by chosen line_and_flow later_of_flow_first refl };
  tie = run_by frame_key least_wait line_and_flow (together 0 672000) refl refl refl;
  not_turned = not_turned;
  turned = run_by descending_key least_wait line_and_flow (together 672000 0) refl refl refl;
}

not_together : ¬ Keeps links ranged_flow (second_of_flow 2172000)
not_together keeps =
    let after : 2172000 < 2172000 =
    (keeps 0 (lit< tt)).order 0 no_crossing (lit< tt) 1 no_crossing (lit< tt) (lit< tt) in
    absurd (omega arith)

not_overtaking : ¬ Keeps links ranged_flow overtaking
not_overtaking keeps =
    let after : 2172000 < 2171999 =
    (keeps 0 (lit< tt)).order 0 no_crossing (lit< tt) 1 no_crossing (lit< tt) (lit< tt) in
    absurd (omega arith)

not_late : ¬ Keeps links ranged_flow late_of_flow
not_late keeps =
    let late : 2844001 ≤ 2844000 = ((keeps 0 (lit< tt)).within 1 no_crossing (lit< tt)).latest in
    absurd (omega arith)

-- it would have to arrive after the first
pair_not_after : (arrival : ℕ) → arrival ≤ 2172 → ¬ KeepsTimes 700 1500 (pair_of_flow arrival)
pair_not_after arrival early keeps =
    let after : 2172 < arrival = keeps.order 0 no_crossing (lit< tt) 1 no_crossing (lit< tt) (lit< tt) in
    absurd (omega (arith, after, early))

pair_not_late : ¬ KeepsTimes 700 1500 (pair_of_flow 2845)
pair_not_late keeps =
    let late : 2845 ≤ 1344 + 1500 = (keeps.within 1 no_crossing (lit< tt)).latest in
    absurd (omega arith)

arrive_in_order : FlowsArriveInOrder
arrive_in_order = record {
  behind = legal_by ranged_flow (second_of_flow 2172001) refl;
  last = legal_by ranged_flow (second_of_flow 2844000) refl;
  together = record { broken = not_together; others = others_by links ranged_flow (second_of_flow 2172000) refl };
  overtaking = record { broken = not_overtaking; others = others_by links ranged_flow overtaking refl };
  late = record { broken = not_late; others = others_by links ranged_flow late_of_flow refl };
  pair_behind = times_by 700 1500 (pair_of_flow 2173) refl;
  pair_last = times_by 700 1500 (pair_of_flow 2844) refl;
  pair_together = pair_not_after 2172 (omega arith);
  pair_overtaken = pair_not_after 2171 (omega arith);
  pair_late = pair_not_late;
}

not_least : ¬ IsRunBy frame_key least_wait ranged_flow (arriving 1372001 2044001 2544001)
not_least h =
    let due : ◌≡◌ {A = ℕ} 1372001 1372000 = h.pace 0 (lit< tt) 0 no_crossing (lit< tt) in
    absurd (omega arith)

arrive_by_pace : FlowsArriveByPace
arrive_by_pace = record {
  least = run_by frame_key least_wait ranged_flow (arriving 1372000 2044000 2544000) refl refl refl;
  not_least = not_least;
  of_other_pace = legal_by ranged_flow (arriving 1372001 2044001 2544001) refl;
}

pub flows_are_kept : FlowsAreKept
flows_are_kept = record { sent = sent_in_order; arrive = arrive_in_order; paced = arrive_by_pace }
