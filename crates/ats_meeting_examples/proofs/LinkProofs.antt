use Rattle.std.proofs.Common.{ℕ, ◌<◌, refl, arith, lit<}
use Rattle.ats_num.specs.Pace.{drawn_wait}
use Rattle.ats_num.specs.Tie.{mixed_key}
use Rattle.ats_trace.specs.Links.{KeepsTimes}
use Rattle.ats_trace.specs.Parts.{Keeps, links}
use Rattle.ats_examples.proofs.ChangeProofs.{no_crossing}
use Rattle.ats_examples.proofs.LegalProofs.{run_by}
use Rattle.ats_examples.proofs.LegalTest.{times_by}
use Rattle.ats_examples.proofs.PartTest.{others_by}
use Rattle.ats_meeting_examples.specs.Links.{LinksAreShared, LinksKeepAllInOrder, RunsKeepAllInOrder}
use Rattle.ats_meeting_examples.specs.Links.{drawn_in_order, overtaking, two_senders}
use Rattle.ats_meeting_examples.specs.Networks.{ranged_of_three}

-- Frames of two senders on a link, by computation.

-- the second would have to arrive after the first
overtakes : (first second : ℕ) → ¬ KeepsTimes 700 1500 (two_senders first second 2171)
overtakes first second keeps =
    let after : 2172 < 2171 = keeps.order 0 no_crossing (lit< tt) 1 no_crossing (lit< tt) (lit< tt) in
    absurd (omega arith)

links_keep_all_in_order : LinksKeepAllInOrder
links_keep_all_in_order = record {
  same_behind = times_by 700 1500 (two_senders 6 6 2173) refl;
  same_overtaken = overtakes 6 6;
  lower_behind = times_by 700 1500 (two_senders 6 5 2173) refl;
  lower_overtakes = overtakes 6 5;
  flow_behind = times_by 700 1500 (two_senders 6 0 2173) refl;
  flow_overtakes = overtakes 6 0;
  behind_flow = times_by 700 1500 (two_senders 0 6 2173) refl;
  flow_overtaken = overtakes 0 6;
  from_same = refl;
  from_higher = refl;
  from_stream = refl;
  from_flow = refl;
}

not_lower : (keeps : Keeps links ranged_of_three (overtaking 0 1)) → ⊥
not_lower keeps =
    let after : 2172000 < 2171999 =
    (keeps 0 (lit< tt)).order 0 no_crossing (lit< tt) 1 no_crossing (lit< tt) (lit< tt) in
    absurd (omega arith)

not_flow : (keeps : Keeps links ranged_of_three (overtaking 0 2)) → ⊥
not_flow keeps =
    let after : 2172000 < 2171999 =
    (keeps 0 (lit< tt)).order 0 no_crossing (lit< tt) 1 no_crossing (lit< tt) (lit< tt) in
    absurd (omega arith)

not_stream : (keeps : Keeps links ranged_of_three (overtaking 2 0)) → ⊥
not_stream keeps =
    let after : 2172000 < 2171999 =
    (keeps 0 (lit< tt)).order 0 no_crossing (lit< tt) 1 no_crossing (lit< tt) (lit< tt) in
    absurd (omega arith)

runs_keep_all_in_order : RunsKeepAllInOrder
runs_keep_all_in_order = record {
  lower = run_by (mixed_key 800000) (drawn_wait 800000) ranged_of_three (drawn_in_order 0 1) refl refl refl;
  flow = run_by (mixed_key 800000) (drawn_wait 800000) ranged_of_three (drawn_in_order 0 2) refl refl refl;
  stream = run_by (mixed_key 800000) (drawn_wait 800000) ranged_of_three (drawn_in_order 2 0) refl refl refl;
  lower_overtakes = record {
    broken = not_lower;
    others = others_by links ranged_of_three (overtaking 0 1) refl;
  };
  flow_overtakes = record {
    broken = not_flow;
    others = others_by links ranged_of_three (overtaking 0 2) refl;
  };
  flow_overtaken = record {
    broken = not_stream;
    others = others_by links ranged_of_three (overtaking 2 0) refl;
  };
}

pub links_are_shared : LinksAreShared
links_are_shared = record { pairs = links_keep_all_in_order; runs = runs_keep_all_in_order }
