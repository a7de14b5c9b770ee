use Rattle.std.proofs.Common.{◌≡◌, ℕ, ◌+◌, ◌-◌, ◌*◌, ◌≤◌, Bool, true, false, cond, [], ◌∷◌, All, refl, ap, arith}
use Rattle.std.specs.Prelude.{sum_by}
use Rattle.std.specs.List.{AllZip}
use Rattle.std.proofs.lemmas.List.Elements.{All-nil, All-cons}
use Rattle.ats_num.specs.declared.time.TheConstants.{PS_PER_NS, PS_PER_SECOND}
use Rattle.ats_group.specs.declared.verdict.Verdict.{Verdict}
use Rattle.ats_group.specs.declared.verdict.Verdict.TheVariants.{Eligible, Late, Size}
use Rattle.ats_streams.specs.Traffic.{IsRuled, is_declared_size}
use Rattle.ats_bucket.specs.Conforming.{Frame, Conforms}
use Rattle.ats_group_law.specs.Shaping.{Passage, IsEligibleAgain}
use Rattle.ats_group_law.specs.Windows.{is_within, bits_within, KeepsWindows}
use Rattle.ats_examples.specs.Groups.{frame_at, fast, passage, out_of_order, ConformedBefore, both_at_2, BucketEmptied}
use Rattle.ats_examples.specs.Groups.{narrow, RoundedUp, OrderCounts, NumbersAreOwn, LateIsSoon}

-- two frames at these times have more bits than the rate and the burst allow
pub too_early : (rate burst first second bits : ℕ)
    → Conforms rate burst (frame_at first bits ∷ frame_at second bits ∷ [])
    → PS_PER_SECOND * (bits + bits) ≤ rate * (second - first) + PS_PER_SECOND * burst
too_early rate burst first second bits c = let w = c.within 0 1 (omega arith) (omega arith) in omega arith

pub bucket_emptied : BucketEmptied
bucket_emptied = record {
  ruled = record {
    rate = record { positive = omega arith; within = omega arith };
    sizes = record { least = omega arith; ordered = omega arith; most = omega arith };
    covers = omega arith;
    burst = omega arith;
  };
  verdicts = refl;
  passed = refl;
  not_earlier = λ c. (let w = too_early 100000000 12336 0 123359999 12336 c in omega arith);
}

pub rounded_up : RoundedUp
rounded_up = record {
  ruled = record {
    rate = record { positive = omega arith; within = omega arith };
    sizes = record { least = omega arith; ordered = omega arith; most = omega arith };
    covers = omega arith;
    burst = omega arith;
  };
  verdicts = refl;
  empty = refl;
  not_down = λ c. (let w = too_early 11000000 672 0 61090909 672 c in omega arith);
}

-- of both passages
of_both : (P : Passage → Type 0) → P (passage 1 1) → P (passage 0 0) → All P out_of_order
of_both P p q = All-cons P (passage 1 1) (passage 0 0 ∷ []) p (All-cons P (passage 0 0) [] q (All-nil P))

fast_ruled : (member : ℕ) → IsRuled (fast member)
fast_ruled member = record {
  rate = record { positive = omega arith; within = omega arith };
  sizes = record { least = omega arith; ordered = omega arith; most = omega arith };
  covers = omega arith;
  burst = omega arith;
}

-- a frame alone has no more bits in any window than its own
bits_of_one : (f : Frame) (from to : ℕ) → bits_within (f ∷ []) from to ≤ f.bits
bits_of_one f from to = by (is_within from to f)
  where
    by : (b : Bool) → sum_by (λ (f : Frame). f.bits) (cond b (f ∷ []) []) ≤ f.bits
    by true = omega arith
    by false = omega arith

one_keeps : (at : ℕ) → KeepsWindows 100000000 12336 (frame_at at 12336 ∷ [])
one_keeps at = record { within = λ from to order. (let few = bits_of_one (frame_at at 12336) from to in omega arith) }

abbrev time_told : Verdict → ℕ
time_told (Eligible e) = e.0
time_told (Late e) = e.0
time_told Size = 0

not_free : ¬ AllZip (IsEligibleAgain 1) out_of_order both_at_2
not_free again =
    let second : IsEligibleAgain 1 (passage 0 0) (Eligible (record { 0 = 2 })) = again.1.0 in
    let same : 2 ≡ second.0.0 = ap time_told second.1 in
    let soon : second.0.0 ≤ 0 + 1 = second.2 in
    absurd (omega arith)

pub order_counts : OrderCounts
order_counts = record {
  ruled = of_both (λ p. IsRuled (fast p.offer.member)) (fast_ruled 1) (fast_ruled 0);
  sized = of_both (λ p. is_declared_size (fast p.offer.member) p.offer.octets ≡ true) refl refl;
  conformed = of_both ConformedBefore (one_keeps 1) (one_keeps 0);
  arrives = of_both (λ p. p.offer.arrival ≤ p.since + 1) (omega arith) (omega arith);
  may_stay = of_both (λ p. p.since + 1 ≤ p.offer.arrival + PS_PER_NS * 1000000) (omega arith) (omega arith);
  verdicts = refl;
  not_free = not_free;
}

pub numbers_are_own : NumbersAreOwn
numbers_are_own = record {
  before = refl;
  renaming = record { one_to_one = λ a b here there same. omega (arith, same); same = λ member there. refl };
  kept = refl;
  shared = refl;
}

too_narrow : ¬ IsRuled (narrow 0)
too_narrow ruled = let covers : 12336 ≤ 672 = ruled.covers in absurd (omega arith)

pub late_is_soon : LateIsSoon
late_is_soon = record {
  ruled = bucket_emptied.ruled;
  told = refl;
  last = refl;
  not_ruled = too_narrow;
  told_later = refl;
  not_soon = refl;
}
