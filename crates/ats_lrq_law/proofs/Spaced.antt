use Rattle.std.proofs.Common.{◌≡◌, ℕ, zero, suc, ◌-◌, ◌*◌, ◌<◌, ◌≤◌, List, [], ◌∷◌, All, mul-le-mul_left, ap, inl}
use Rattle.std.proofs.Common.{mul-le-mul_right, inr, arith}
use Rattle.std.proofs.lemmas.Bool.{cases_lt}
use Rattle.std.specs.List.Sorted.{IsNonDecreasingBy}
use Rattle.std.proofs.lemmas.List.Elements.{All-nil, All-cons, All-weaker}
use Rattle.ats_bucket.specs.Conforming.{Frame}
use Rattle.ats_lrq.specs.Spacing.{IsSpaced}
use Rattle.ats_lrq.specs.Judge.{AreSpaced}

-- a later frame keeps its distance too
pub spaced-on : (rate bits since at after : ℕ) → at ≤ after → IsSpaced rate bits since at
    → IsSpaced rate bits since after
spaced-on rate bits since at after h s =
    let later = s.later in
    let given = s.given in
    let longer : at - since ≤ after - since = omega arith in
    record { later = omega arith; given = omega (arith, mul-le-mul_left rate longer) }

-- and a frame that keeps it by a rate keeps it by a greater one
spaced-by : (rate more bits since at : ℕ) → rate ≤ more → IsSpaced rate bits since at → IsSpaced more bits since at
spaced-by rate more bits since at h s =
    let given = s.given in
    record { later = s.later; given = omega (arith, mul-le-mul_right (at - since) h) }

pub spaced-wider : (rate more : ℕ) (frames : List Frame) → rate ≤ more → AreSpaced rate frames → AreSpaced more frames
spaced-wider rate more [] h s = tt
spaced-wider rate more (f ∷ []) h s = tt
spaced-wider rate more (f ∷ g ∷ fs) h s =
    (spaced-by rate more f.bits f.at g.at h s.0, spaced-wider rate more (g ∷ fs) h s.1)

-- where the earlier frame has bits, time passes
pub spaced-past : (rate bits since at : ℕ) → 1 ≤ bits → IsSpaced rate bits since at → since < at
spaced-past rate bits since at b s = elim (cases_lt since at) [
  | inl h ↦ h
  | inr h ↦
      (let none : at - since ≡ 0 = omega arith in
      let rated = ap (λ (n : ℕ). rate * n) none in
      let given = s.given in
      absurd (omega arith))
]

-- the frames behind the first
pub spaced-tail : (rate : ℕ) (f : Frame) (fs : List Frame) → AreSpaced rate (f ∷ fs) → AreSpaced rate fs
spaced-tail rate f [] s = tt
spaced-tail rate f (g ∷ gs) s = s.1

-- each of them keeps its distance from the first
pub spaced-head : (rate : ℕ) (f : Frame) (fs : List Frame) → AreSpaced rate (f ∷ fs)
    → All (λ (g : Frame). IsSpaced rate f.bits f.at g.at) fs
spaced-head rate f [] s = All-nil (λ (g : Frame). IsSpaced rate f.bits f.at g.at)
spaced-head rate f (g ∷ gs) s =
    All-cons (λ (h : Frame). IsSpaced rate f.bits f.at h.at) g gs s.0
    (All-weaker (λ (h : Frame). IsSpaced rate g.bits g.at h.at) (λ (h : Frame). IsSpaced rate f.bits f.at h.at)
    (λ h b. spaced-on rate f.bits f.at g.at h.at b.later s.0) gs (spaced-head rate g gs s.1))

-- times do not descend
order-cons : (f : Frame) (fs : List Frame) → All (λ (g : Frame). f.at ≤ g.at) fs
    → IsNonDecreasingBy (λ (g : Frame). g.at) fs → IsNonDecreasingBy (λ (g : Frame). g.at) (f ∷ fs)
order-cons f fs head tail zero zero d h k = omega arith
order-cons f fs head tail zero (suc j) d h k = head j d (omega arith)
order-cons f fs head tail (suc i) zero d h k = absurd (omega arith)
order-cons f fs head tail (suc i) (suc j) d h k = tail i j d (omega arith) (omega arith)

pub spaced-order : (rate : ℕ) (frames : List Frame) → AreSpaced rate frames
    → IsNonDecreasingBy (λ (f : Frame). f.at) frames
spaced-order rate [] s = λ i j d h k. absurd (omega arith)
spaced-order rate (f ∷ fs) s =
    order-cons f fs
    (All-weaker (λ (g : Frame). IsSpaced rate f.bits f.at g.at) (λ (g : Frame). f.at ≤ g.at) (λ g b. b.later) fs
    (spaced-head rate f fs s)) (spaced-order rate fs (spaced-tail rate f fs s))
