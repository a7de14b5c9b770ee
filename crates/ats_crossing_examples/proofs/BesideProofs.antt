use Rattle.std.proofs.Common.{◌≡◌, ℕ, ◌<◌, List, get_or, map, refl, ap, subst, arith, lit<, lit≤}
use Rattle.ats_num.specs.Pace.{drawn_wait}
use Rattle.ats_num.specs.Tie.{late_key, mixed_key}
use Rattle.ats_group.specs.Judge.{ats_judge}
use Rattle.ats_group.specs.declared.verdict.Verdict.{Verdict}
use Rattle.ats_trace.specs.Eligibility.{IsJudged, offer_of, residence_of_groups, scheduled_by}
use Rattle.ats_trace.specs.Parts.{Keeps, groups}
use Rattle.ats_trace.specs.Projections.{Handed, handed_by}
use Rattle.ats_trace.specs.Run.{IsRunBy}
use Rattle.ats_examples.specs.LegalRuns.{frame_key, greatest_wait, least_wait}
use Rattle.ats_examples.proofs.ChangeProofs.{no_frame, no_transmission, time_in}
use Rattle.ats_examples.proofs.InOrder.{in_order}
use Rattle.ats_examples.proofs.LegalProofs.{run_by}
use Rattle.ats_examples.proofs.PartTest.{others_by}
use Rattle.ats_crossing_examples.specs.Beside.{OneGroupHasBoth, OwnFramesAreAmongOthers, TiesGoByKeys, behind_own}
use Rattle.ats_crossing_examples.specs.Beside.{own_behind, own_first, passing_first}
use Rattle.ats_crossing_examples.specs.Networks.{crossed}

-- Own frames beside others of their class, by computation.

not_at_arrival : ¬ Keeps groups crossed (behind_own 4344000 4344000)
not_at_arrival keeps =
    let frames : List Handed = handed_by crossed (behind_own 4344000 4344000) 2 6 in
    let judged : IsJudged ats_judge crossed 2 frames = keeps 2 6 (lit< tt) (lit≤ tt) in
    let same : judged.arrivals ≡ frames = in_order (λ (f : Handed). f.crossing.arrival)
    (get_or frames 0 no_frame) (get_or frames 1 no_frame) (get_or frames 2 no_frame)
    judged.arrivals (lit< tt) (lit< tt) judged.same judged.in_order in
    let told : map (λ (f : Handed). f.verdict) frames ≡ ats_judge (scheduled_by crossed 2)
    (residence_of_groups crossed 2) (map offer_of frames)
    = subst (λ (handed : List Handed). map (λ (f : Handed). f.verdict) handed ≡ ats_judge (scheduled_by crossed 2)
    (residence_of_groups crossed 2) (map offer_of handed)) same judged.verdicts in
    let early : ◌≡◌ {A = ℕ} 4344000 69372000 = ap (λ (vs : List Verdict). get_or (map time_in vs) 2 0) told in
    absurd (omega arith)

not_own_at_arrival : ¬ Keeps groups crossed (own_behind 151576001 150904001 150904001)
not_own_at_arrival keeps =
    let frames : List Handed = handed_by crossed (own_behind 151576001 150904001 150904001) 2 6 in
    let judged : IsJudged ats_judge crossed 2 frames = keeps 2 6 (lit< tt) (lit≤ tt) in
    let same : judged.arrivals ≡ frames = in_order (λ (f : Handed). f.crossing.arrival)
    (get_or frames 0 no_frame) (get_or frames 1 no_frame) (get_or frames 2 no_frame)
    judged.arrivals (lit< tt) (lit< tt) judged.same judged.in_order in
    let told : map (λ (f : Handed). f.verdict) frames ≡ ats_judge (scheduled_by crossed 2)
    (residence_of_groups crossed 2) (map offer_of frames)
    = subst (λ (handed : List Handed). map (λ (f : Handed). f.verdict) handed ≡ ats_judge (scheduled_by crossed 2)
    (residence_of_groups crossed 2) (map offer_of handed)) same judged.verdicts in
    let early : ◌≡◌ {A = ℕ} 150904001 151032000 = ap (λ (vs : List Verdict). get_or (map time_in vs) 2 0) told in
    absurd (omega arith)

one_group : OneGroupHasBoth
one_group = record {
  held = run_by late_key greatest_wait crossed (behind_own 69372000 70044000) refl refl refl;
  at_arrival = record { broken = not_at_arrival; others = others_by groups crossed (behind_own 4344000 4344000) refl };
  own_held =
      run_by (mixed_key 800000) (drawn_wait 800000) crossed (own_behind 151032000 151032000 163368000) refl refl refl;
  own_at_arrival = record {
    broken = not_own_at_arrival;
    others = others_by groups crossed (own_behind 151576001 150904001 150904001) refl;
  };
}

-- frame 1 starts first, so its key would have to be the lesser
not_own : ¬ IsRunBy frame_key least_wait crossed (own_first 700000)
not_own h =
    let first : 1 < 0 =
    h.tie 2 (lit< tt) 1 no_transmission (lit< tt) 0 no_transmission (lit< tt) refl refl (lit< tt) in
    absurd (omega arith)

not_passing : ¬ IsRunBy late_key greatest_wait crossed (passing_first 1500000)
not_passing h =
    let first : late_key 0 0 < late_key 1 1 =
    h.tie 2 (lit< tt) 0 no_transmission (lit< tt) 1 no_transmission (lit< tt) refl refl (lit< tt) in
    absurd (omega arith)

ties : TiesGoByKeys
ties = record {
  by_frame = run_by frame_key least_wait crossed (passing_first 700000) refl refl refl;
  not_own = not_own;
  by_sender = run_by late_key greatest_wait crossed (own_first 1500000) refl refl refl;
  not_passing = not_passing;
}

pub own_frames_are_among_others : OwnFramesAreAmongOthers
own_frames_are_among_others = record { groups = one_group; ties = ties }
