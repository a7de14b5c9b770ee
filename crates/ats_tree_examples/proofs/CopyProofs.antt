use Rattle.std.proofs.Common.{◌≡◌, ℕ, ◌<◌, [], ◌∷◌, length, refl, ap, arith, lit<}
use Rattle.std.specs.Prelude.{Option, Some, None}
use Rattle.ats_num.specs.Pace.{drawn_wait}
use Rattle.ats_num.specs.Tie.{late_key, mixed_key}
use Rattle.ats_num.specs.declared.time.Ps.{Ps}
use Rattle.ats_port_rule.specs.PortRule.{KeepsTie}
use Rattle.ats_group.specs.declared.verdict.Verdict.{Verdict}
use Rattle.ats_trace.specs.OneVerdict.{HasOneVerdict}
use Rattle.ats_trace.specs.Projections.{sent_by}
use Rattle.ats_trace.specs.Run.{IsRunBy}
use Rattle.ats_trace.specs.Stored.{travel_at}
use Rattle.ats_trace.proofs.OneVerdict.{one_verdict}
use Rattle.ats_examples.specs.LegalRuns.{frame_key, least_wait, greatest_wait}
use Rattle.ats_examples.specs.Runs.{hop}
use Rattle.ats_examples.proofs.ChangeProofs.{no_crossing, no_transmission, time_in}
use Rattle.ats_examples.proofs.LegalProofs.{run_by}
use Rattle.ats_examples.proofs.PartTest.{legal_by}
use Rattle.ats_tree_examples.specs.Networks.{split, split_and_flow, split_and_stream, split_by_class, split_ranged}
use Rattle.ats_tree_examples.specs.Networks.{split_and_slower, behind_bridge, branch_ranged, crossed, from_bridge, tree}
use Rattle.ats_tree_examples.specs.Networks.{tree_and_flow}
use Rattle.ats_tree_examples.specs.Runs.{copy, one_split, one_with, long_split, behind_flow, within_burst}
use Rattle.ats_tree_examples.specs.Runs.{held_by_group, tied_first}
use Rattle.ats_tree_examples.specs.Runs.{tied_last, coming, crossed_babbler, over_tree, late_in_tree}
use Rattle.ats_tree_examples.specs.Runs.{copies_behind, copies_in_order, copies_out_of_order, copy_coming, own_copies}
use Rattle.ats_tree_examples.specs.Copies.{BranchesGoByOrder, CopiesAreLegal, CopiesGoByOrder, VerdictsAreOne}
use Rattle.ats_tree_examples.specs.Copies.{WaysAreWorked, survivor}
use Rattle.ats_tree_examples.proofs.TreeProofs.{tree_is, tree_and_flow_is}

pub copies_are_legal : CopiesAreLegal
copies_are_legal = record {
  one = legal_by split one_split refl;
  too_long = legal_by split long_split refl;
  one_busy = legal_by split_and_flow behind_flow refl;
  counted_once = legal_by split within_burst refl;
  held = legal_by split_by_class held_by_group refl;
  babbled = legal_by crossed crossed_babbler refl;
  to_four = legal_by tree (over_tree ∷ []) refl;
  own = legal_by from_bridge own_copies refl;
  own_behind = legal_by behind_bridge copies_behind refl;
  late_behind_one = legal_by tree_and_flow late_in_tree refl;
}

-- the other stream's frame has the lesser key, and is sent behind the copy
not_by_frame : ¬ IsRunBy frame_key least_wait split_and_stream tied_last
not_by_frame h =
    let less : 1 < 0 =
    (h.tie 4 (lit< tt)) 1 no_transmission (lit< tt) 0 no_transmission (lit< tt) refl refl (lit< tt) in
    absurd (omega arith)

pub copies_go_by_order : CopiesGoByOrder
copies_go_by_order = record {
  by_frame = run_by frame_key least_wait split_and_stream tied_first refl refl refl;
  by_sender = run_by late_key greatest_wait split_and_stream tied_first refl refl refl;
  mixed = run_by (mixed_key 1) (drawn_wait 1) split_and_stream tied_first refl refl refl;
  turned = run_by (mixed_key 0) (drawn_wait 0) split_and_stream tied_last refl refl refl;
  not_by_frame = not_by_frame;
  paced = run_by (mixed_key 7) (drawn_wait 7) split_ranged (coming 13036007 13036007) refl refl refl;
}

-- of the two small frames of the split's stream, port 2 sends the first first, and port 4 the second
no_one_key : (key : ℕ → ℕ → ℕ) → ¬ ((port : ℕ) → port < length split_and_slower.topology.ports
    → KeepsTie key (sent_by split_and_slower copies_out_of_order port))
no_one_key key keeps =
    let trunk : key 0 2 < key 0 3 =
    keeps 2 (lit< tt) 2 no_transmission (lit< tt) 3 no_transmission (lit< tt) refl refl (lit< tt) in
    let copies : key 0 3 < key 0 2 =
    keeps 4 (lit< tt) 1 no_transmission (lit< tt) 0 no_transmission (lit< tt) refl refl (lit< tt) in
    absurd (omega arith)

-- the copy comes 800000 ps before its pace
not_greatest : ¬ IsRunBy late_key greatest_wait branch_ranged (copy_coming 26872000)
not_greatest h =
    let due : ◌≡◌ {A = ℕ} 26872000 27672000 = h.pace 4 (lit< tt) 0 no_crossing (lit< tt) in
    absurd (omega arith)

pub branches_go_by_order : BranchesGoByOrder
branches_go_by_order = record {
  in_order = run_by frame_key least_wait split_and_slower copies_in_order refl refl refl;
  out_of_order = legal_by split_and_slower copies_out_of_order refl;
  not_by_frame = λ h. no_one_key frame_key h.tie;
  by_no_one_key = no_one_key;
  least = run_by frame_key least_wait branch_ranged (copy_coming 26872000) refl refl refl;
  greatest = run_by late_key greatest_wait branch_ranged (copy_coming 27672000) refl refl refl;
  not_greatest = not_greatest;
}

pub ways_are_worked : WaysAreWorked
ways_are_worked = record {
  four = refl;
  routes = refl;
  first = refl;
  second = refl;
  third = refl;
  fourth = refl;
  past_the_late = refl;
  to_the_last = refl;
}

-- the time in what was told at a port
abbrev told_time : Option (Ps × Verdict) → ℕ
told_time None = 0
told_time (Some told) = time_in told.1

abbrev came_at : Option (Ps × Verdict) → ℕ
came_at None = 0
came_at (Some told) = told.0.0

-- the copy that survives is eligible, and its frame is too long
not_one : ¬ HasOneVerdict split (travel_at survivor 0)
not_one one =
    let same : ◌≡◌ {A = ℕ} 0 13844000 = ap told_time (one 2 4 (1, lit< tt, refl) (2, lit< tt, refl) refl) in
    absurd (omega arith)

-- the copy that is eligible later, and the one that comes later
not_at_once : ¬ HasOneVerdict split
    (travel_at (one_with (copy (hop 13836000 13836001 13836001 26172001 ∷ []) 26672001 ∷ [])) 0)
not_at_once one =
    let same : ◌≡◌ {A = ℕ} 13836000 13836001 = ap told_time (one 2 4 (1, lit< tt, refl) (2, lit< tt, refl) refl) in
    absurd (omega arith)

not_together : ¬ HasOneVerdict split
    (travel_at (one_with (copy (hop 13836001 13836000 13836000 26172000 ∷ []) 26672000 ∷ [])) 0)
not_together one =
    let same : ◌≡◌ {A = ℕ} 13836000 13836001 = ap came_at (one 2 4 (1, lit< tt, refl) (2, lit< tt, refl) refl) in
    absurd (omega arith)

pub verdicts_are_one : VerdictsAreOne
verdicts_are_one = record {
  in_tree = one_verdict tree (over_tree ∷ []) tree_is copies_are_legal.to_four.journeys;
  in_late = one_verdict tree_and_flow late_in_tree tree_and_flow_is copies_are_legal.late_behind_one.journeys;
  at_first = refl;
  at_second = refl;
  at_third = refl;
  of_its_own = not_one;
  at_another_time = not_at_once;
  come_later = not_together;
}
