use Rattle.std.proofs.Common.{◌≡◌, ℕ, zero, suc, ◌+◌, ◌*◌, ◌<◌, ◌≤◌, List, [], ◌∷◌, length, take, All}
use Rattle.std.proofs.Common.{get_or, refl, sym, ap, ◌∙◌, subst, inl, inr, arith, add-one}
use Rattle.std.specs.List.Sorted.{IsNonDecreasing}
use Rattle.std.proofs.lemmas.Bool.{cases_lt}
use Rattle.std.proofs.lemmas.List.{take_more, take_all, length-take-le, get_or-take, get_or-map, length-map}
use Rattle.ats_num.specs.declared.time.TheConstants.{PS_PER_SECOND}
use Rattle.ats_num.specs.Division.{IsCeiling, ceiling}
use Rattle.ats_num.proofs.Ceiling.{ceiling-is}
use Rattle.ats_bucket.specs.Conforming.{Frame, times_of, bits_between, time_between}
use Rattle.ats_fit.specs.Deficit.{first_deficit, deficit_after, IsDeficit}
use Rattle.ats_fit.specs.declared.deficit.Deficit.{Deficit}
use Rattle.ats_fit.specs.Least.{IsLeastBurst}
use Rattle.ats_fit.specs.Laws.{LeastBurstExists, LeastBurstIsOne, LessBreaks, NoFramesNeedNone, OneFrameIsItsBits}
use Rattle.ats_fit.proofs.Deficits.{deficit-first, deficit-push}

-- the greatest deficit in whole bits, rounded up, is the least burst
pub least-burst : (frames : List Frame) (d : Deficit) (burst : ℕ) → IsDeficit frames d
    → IsCeiling d.most PS_PER_SECOND burst → IsLeastBurst d.rate frames burst
least-burst frames d burst is ceil = record {
  conforms = (is.most burst).1 (omega (arith, ceil.reaches));
  least = λ other conforms. ceil.least other (omega (arith, (is.most other).0 conforms));
}

-- there is a deficit after the first n frames
record HasDeficit (rate : ℕ) (frames : List Frame) : Type 0 where
  deficit : Deficit
  rated : deficit.rate ≡ rate
  is : IsDeficit frames deficit

no_frame : Frame
no_frame = record { at = 0; bits = 0 }

has-next : (rate n : ℕ) (frames : List Frame) → IsNonDecreasing (times_of frames) → n < length frames
    → HasDeficit rate (take n frames) → HasDeficit rate (take (n + 1) frames)
has-next rate n frames sorted h has =
    let x : Frame = get_or frames n no_frame in
    let time : Frame → ℕ = λ f. f.at in
    let order : All (λ (f : Frame). f.at ≤ x.at) (take n frames) = λ k d below. (
    let k_below : k < n = omega (arith, length-take-le n frames (omega arith)) in
    let at_k : get_or (times_of frames) k 0 ≡ (get_or frames k d).at = get_or-map time frames k d 0 (omega arith) in
    let at_n : get_or (times_of frames) n 0 ≡ x.at = get_or-map time frames n no_frame 0 h in
    let up : get_or (times_of frames) k 0 ≤ get_or (times_of frames) n 0 =
    sorted k n 0 (omega arith) (omega (arith, length-map frames time)) in
    rw (get_or-take n frames k d k_below) (omega arith)) in
    record {
      deficit = deficit_after has.deficit x.at x.bits;
      rated = has.rated;
      is = subst (λ (l : List Frame). IsDeficit l (deficit_after has.deficit x.at x.bits))
          (sym (take_more frames n no_frame h)) (deficit-push (take n frames) x has.deficit has.is order);
    }

has-deficit : (rate : ℕ) (frames : List Frame) → IsNonDecreasing (times_of frames) → (n : ℕ) → n ≤ length frames
    → HasDeficit rate (take n frames)
has-deficit rate frames sorted zero h =
    record { deficit = first_deficit rate; rated = refl; is = deficit-first rate }
has-deficit rate frames sorted (suc n) h =
    subst (λ (k : ℕ). HasDeficit rate (take k frames)) (add-one n)
    (has-next rate n frames sorted (omega arith) (has-deficit rate frames sorted n (omega arith)))

pub least_exists : LeastBurstExists
least_exists rate frames sorted =
    let has : HasDeficit rate frames =
    subst (HasDeficit rate) (take_all (length frames) frames (omega arith))
    (has-deficit rate frames sorted (length frames) (omega arith)) in (
      ceiling has.deficit.most PS_PER_SECOND,
      subst (λ (r : ℕ). IsLeastBurst r frames (ceiling has.deficit.most PS_PER_SECOND)) has.rated
          (least-burst frames has.deficit (ceiling has.deficit.most PS_PER_SECOND) has.is
          (ceiling-is has.deficit.most PS_PER_SECOND (omega arith))),
    )

pub least_is_one : LeastBurstIsOne
least_is_one rate frames a b is_a is_b = omega (arith, is_a.least b is_b.conforms, is_b.least a is_a.conforms)

pub less_breaks : LessBreaks
less_breaks rate frames burst = (
  (λ is. (is.conforms, (λ less below conforms. absurd (omega (arith, is.least less conforms))))),
  (λ both. record {
    conforms = both.0;
    least = λ other conforms. (elim (cases_lt other burst) as (λ _. burst ≤ other) [
      | inl below ↦ absurd (both.1 other below conforms)
      | inr enough ↦ enough
    ]);
  }),
)

-- that of no frames is 0
pub no_frames : NoFramesNeedNone
no_frames rate = record {
  conforms = record {
    in_order = λ i j d le below. absurd (omega arith);
    within = λ i j le below. absurd (omega arith);
  };
  least = λ other conforms. omega arith;
}

-- that of one frame is its bits
pub one_frame : OneFrameIsItsBits
one_frame rate frame = record {
  conforms = record {
    in_order = λ i j d le below. (
        let same : i ≡ j = omega arith in
        omega (arith, ap (λ (k : ℕ). get_or (times_of (frame ∷ [])) k d) same));
    within = λ i j le below. (
        let first : i ≡ 0 = omega arith in
        let last : j ≡ 0 = omega arith in
        let bits : bits_between (frame ∷ []) 0 0 ≡ frame.bits = omega arith in
        subst (λ (k : ℕ). PS_PER_SECOND * bits_between (frame ∷ []) k j
        ≤ rate * time_between (frame ∷ []) k j + PS_PER_SECOND * frame.bits) (sym first)
        (subst (λ (k : ℕ). PS_PER_SECOND * bits_between (frame ∷ []) 0 k
        ≤ rate * time_between (frame ∷ []) 0 k + PS_PER_SECOND * frame.bits) (sym last) (omega (arith, bits))));
  };
  least = λ other conforms. (
      let h = conforms.within 0 0 (omega arith) (omega arith) in
      let bits : bits_between (frame ∷ []) 0 0 ≡ frame.bits = omega arith in
      let time : time_between (frame ∷ []) 0 0 ≡ 0 = omega arith in
      let none : rate * time_between (frame ∷ []) 0 0 ≡ 0 = ap (λ (n : ℕ). rate * n) time ∙ omega arith in
      omega (arith, h, bits, none));
}
