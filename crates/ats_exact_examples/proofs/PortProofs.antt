use Rattle.std.proofs.Common.{◌≡◌, ℕ, List, [], get_or, map, refl, ap, subst, arith, lit<, lit≤}
use Rattle.ats_group.specs.declared.verdict.Verdict.{Verdict}
use Rattle.ats_group.specs.Judge.{ats_judge}
use Rattle.ats_trace.specs.Eligibility.{IsJudged, offer_of, residence_of_groups, scheduled_by}
use Rattle.ats_trace.specs.Parts.{groups, Keeps}
use Rattle.ats_trace.specs.Projections.{Handed, handed_by}
use Rattle.ats_examples.specs.Networks.{fork_links}
use Rattle.ats_examples.proofs.ChangeProofs.{no_frame, time_in}
use Rattle.ats_examples.proofs.InOrder.{in_order}
use Rattle.ats_examples.proofs.NetworkTest.{network_by}
use Rattle.ats_examples.proofs.PartTest.{others_by, legal_by}
use Rattle.ats_exact_examples.specs.Ports.{GroupsCrossPorts, behind_held, parted, parted_nodes}

-- The group of two streams that part, by computation.

-- the three frames of class 6 that come to the bridge by port 0
abbrev frames_there : List Handed
frames_there = handed_by parted (behind_held 26844000 27516000 28016000) 0 6

not_at_arrival : ¬ Keeps groups parted (behind_held 26844000 27516000 28016000)
not_at_arrival keeps =
    let judged : IsJudged ats_judge parted 0 frames_there =
    keeps 0 6 (lit< tt) (lit≤ tt) in
    let same : judged.arrivals ≡ frames_there = in_order (λ (f : Handed). f.crossing.arrival)
    (get_or frames_there 0 no_frame) (get_or frames_there 1 no_frame) (get_or frames_there 2 no_frame)
    judged.arrivals (lit< tt) (lit< tt) judged.same judged.in_order in
    let told : map (λ (f : Handed). f.verdict) frames_there ≡ ats_judge (scheduled_by parted 0)
    (residence_of_groups parted 0) (map offer_of frames_there)
    = subst (λ (frames : List Handed). map (λ (f : Handed). f.verdict) frames ≡ ats_judge (scheduled_by parted 0)
    (residence_of_groups parted 0) (map offer_of frames)) same judged.verdicts in
    let early : ◌≡◌ {A = ℕ} 26844000 137196000 = ap (λ (vs : List Verdict). get_or (map time_in vs) 2 0) told in
    absurd (omega arith)

pub groups_cross_ports : GroupsCrossPorts
groups_cross_ports = record {
  rules = network_by parted_nodes fork_links parted.streams [] refl refl;
  held = legal_by parted (behind_held 137196000 137868000 138368000) refl;
  at_arrival = record {
    broken = not_at_arrival;
    others = others_by groups parted (behind_held 26844000 27516000 28016000) refl;
  };
}
