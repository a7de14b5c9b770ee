use Rattle.std.proofs.Common.{◌≡◌, ℕ, ◌≤◌, List, get_or, map, refl, ap, subst, arith, lit<, lit≤}
use Rattle.ats_num.specs.Pace.{drawn_wait}
use Rattle.ats_num.specs.Tie.{late_key, mixed_key}
use Rattle.ats_group.specs.declared.verdict.Verdict.{Verdict}
use Rattle.ats_group.specs.Judge.{ats_judge}
use Rattle.ats_port_rule.specs.PortRule.{IsAhead}
use Rattle.ats_trace.specs.Eligibility.{IsJudged, offer_of, residence_of_groups, scheduled_by}
use Rattle.ats_trace.specs.Parts.{chosen, groups, Keeps}
use Rattle.ats_trace.specs.Projections.{Handed, sent_by, handed_by}
use Rattle.ats_examples.specs.Networks.{fork_of_classes, line_lowered, line_raised}
use Rattle.ats_examples.specs.Runs.{first_goes_first, second_goes_first, held_by_group, group_by_class}
use Rattle.ats_examples.specs.LegalRuns.{frame_key, least_wait, greatest_wait}
use Rattle.ats_examples.specs.ClassRuns.{raised_second, raised_first, ClassesOfPorts, ClassesOfGroups}
use Rattle.ats_examples.proofs.ChangeProofs.{no_transmission, no_frame, time_in, first_time, only}
use Rattle.ats_examples.proofs.InOrder.{in_order}
use Rattle.ats_examples.proofs.LegalProofs.{run_by}
use Rattle.ats_examples.proofs.PartTest.{others_by, legal_by}

-- at the bridge the first frame has class 5, and the second class 6
not_by_first_class : ¬ Keeps chosen fork_of_classes first_goes_first
not_by_first_class keeps =
    let ahead : IsAhead (get_or (sent_by fork_of_classes first_goes_first 2) 0 no_transmission)
    (get_or (sent_by fork_of_classes first_goes_first 2) 1 no_transmission)
    = keeps 2 (lit< tt) 0 no_transmission (lit< tt) 1 no_transmission (lit< tt) (lit< tt) (lit≤ tt) in
    let class : 6 ≤ 5 = ahead.class in
    absurd (omega arith)

-- at the station it is the other way round
not_by_next_class : ¬ Keeps chosen line_raised raised_first
not_by_next_class keeps =
    let ahead : IsAhead (get_or (sent_by line_raised raised_first 0) 1 no_transmission)
    (get_or (sent_by line_raised raised_first 0) 0 no_transmission)
    = keeps 0 (lit< tt) 1 no_transmission (lit< tt) 0 no_transmission (lit< tt) (lit< tt) (lit≤ tt) in
    let class : 6 ≤ 5 = ahead.class in
    absurd (omega arith)

pub classes_of_ports : ClassesOfPorts
classes_of_ports = record {
  by_frame = run_by frame_key least_wait fork_of_classes second_goes_first refl refl refl;
  by_sender = run_by late_key greatest_wait fork_of_classes second_goes_first refl refl refl;
  mixed = run_by (mixed_key 1) (drawn_wait 1) fork_of_classes second_goes_first refl refl refl;
  by_first_class = record {
    broken = not_by_first_class;
    others = others_by chosen fork_of_classes first_goes_first refl;
  };
  raised = legal_by line_raised raised_second refl;
  by_next_class = record { broken = not_by_next_class; others = others_by chosen line_raised raised_first refl };
}

-- the three frames of class 6 at the station
abbrev lowered_frames : List Handed
lowered_frames = handed_by line_lowered group_by_class 0 6

not_apart : ¬ Keeps groups line_lowered group_by_class
not_apart keeps =
    let judged : IsJudged ats_judge line_lowered 0 lowered_frames =
    keeps 0 6 (lit< tt) (lit≤ tt) in
    let same : judged.arrivals ≡ lowered_frames = in_order (λ (f : Handed). f.crossing.arrival)
    (get_or lowered_frames 0 no_frame) (get_or lowered_frames 1 no_frame) (get_or lowered_frames 2 no_frame)
    judged.arrivals (lit< tt) (lit< tt) judged.same judged.in_order in
    let told : map (λ (f : Handed). f.verdict) lowered_frames ≡ ats_judge (scheduled_by line_lowered 0)
    (residence_of_groups line_lowered 0) (map offer_of lowered_frames)
    = subst (λ (frames : List Handed). map (λ (f : Handed). f.verdict) frames ≡ ats_judge (scheduled_by line_lowered 0)
    (residence_of_groups line_lowered 0) (map offer_of frames))
    same judged.verdicts in
    let early : ◌≡◌ {A = ℕ} 26844000 137196000 = ap (λ (vs : List Verdict). get_or (map time_in vs) 2 0) told in
    absurd (omega arith)

-- the only frame of class 5 at the station
abbrev raised_frame : List Handed
raised_frame = handed_by line_raised held_by_group 0 5

not_held : ¬ Keeps groups line_raised held_by_group
not_held keeps =
    let judged : IsJudged ats_judge line_raised 0 raised_frame =
    keeps 0 5 (lit< tt) (lit≤ tt) in
    let same : judged.arrivals ≡ raised_frame = only (get_or raised_frame 0 no_frame) judged.arrivals judged.same in
    let told : map (λ (f : Handed). f.verdict) raised_frame ≡ ats_judge (scheduled_by line_raised 0)
    (residence_of_groups line_raised 0) (map offer_of raised_frame)
    = subst (λ (frames : List Handed). map (λ (f : Handed). f.verdict) frames ≡ ats_judge (scheduled_by line_raised 0)
    (residence_of_groups line_raised 0) (map offer_of frames))
    same judged.verdicts in
    let late : ◌≡◌ {A = ℕ} 137196000 26844000 = ap first_time told in
    absurd (omega arith)

pub classes_of_groups : ClassesOfGroups
classes_of_groups = record {
  lowered = legal_by line_lowered held_by_group refl;
  by_next_class = record { broken = not_apart; others = others_by groups line_lowered group_by_class refl };
  raised = legal_by line_raised group_by_class refl;
  held_by_other = record { broken = not_held; others = others_by groups line_raised held_by_group refl };
}
