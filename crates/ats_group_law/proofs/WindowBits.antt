use Rattle.std.proofs.Common.{◌≡◌, ℕ, ◌+◌, ◌<◌, ◌≤◌, Bool, true, false, cond, List, [], ◌∷◌, ◌++◌, sum_by, filter, refl}
use Rattle.std.proofs.Common.{sym, ap, ◌∙◌, inl, inr, arith}
use Rattle.std.specs.Prelude.{nat_le, IsPermutation}
use Rattle.std.proofs.lemmas.Bool.{cases_Bool, and_parts, and_from, leb-true, le-leb}
use Rattle.std.proofs.lemmas.List.Sums.{sum_by-cons, sum_by-append, sum_by-le-sum_by}
use Rattle.std.proofs.lemmas.List.Sorted.{sum_by-IsPermutation}
use Rattle.ats_bucket.specs.Conforming.{Frame}
use Rattle.ats_group_law.specs.Windows.{is_within, bits_within}

-- the bits of a frame where it is in the window
abbrev pub bits_in : ℕ → ℕ → Frame → ℕ
bits_in from to frame = cond (is_within from to frame) frame.bits 0

-- what the window shows of a frame
pub within-parts : (from to : ℕ) (f : Frame) → is_within from to f ≡ true → (from ≤ f.at) × (f.at ≤ to)
within-parts from to f e =
    let p = and_parts (nat_le from f.at) (nat_le f.at to) e in
    (leb-true from f.at p.0, leb-true f.at to p.1)

pub within-is : (from to : ℕ) (f : Frame) → from ≤ f.at → f.at ≤ to → is_within from to f ≡ true
within-is from to f h k = and_from (nat_le from f.at) (nat_le f.at to) (le-leb from f.at h) (le-leb f.at to k)

pub bits_in-inside : (from to : ℕ) (f : Frame) → from ≤ f.at → f.at ≤ to → bits_in from to f ≡ f.bits
bits_in-inside from to f h k = ap (λ (b : Bool). cond b f.bits 0) (within-is from to f h k)

pub bits_in-before : (from to : ℕ) (f : Frame) → f.at < from → bits_in from to f ≡ 0
bits_in-before from to f h = elim (cases_Bool (is_within from to f)) [
  | inl e ↦ absurd (let p = within-parts from to f e in omega (arith, p.0))
  | inr e ↦ ap (λ (b : Bool). cond b f.bits 0) e
]

pub bits_in-after : (from to : ℕ) (f : Frame) → to < f.at → bits_in from to f ≡ 0
bits_in-after from to f h = elim (cases_Bool (is_within from to f)) [
  | inl e ↦ absurd (let p = within-parts from to f e in omega (arith, p.1))
  | inr e ↦ ap (λ (b : Bool). cond b f.bits 0) e
]

pub bits_in-le : (from to : ℕ) (f : Frame) → bits_in from to f ≤ f.bits
bits_in-le from to f = elim (cases_Bool (is_within from to f)) [
  | inl e ↦ (let b : bits_in from to f ≡ f.bits = ap (λ (b : Bool). cond b f.bits 0) e in omega arith)
  | inr e ↦ (let b : bits_in from to f ≡ 0 = ap (λ (b : Bool). cond b f.bits 0) e in omega arith)
]

-- a wider window holds no fewer
pub bits_in-wider : (from to first last : ℕ) (f : Frame) → first ≤ from → to ≤ last
    → bits_in from to f ≤ bits_in first last f
bits_in-wider from to first last f h k = elim (cases_Bool (is_within from to f)) [
  | inl e ↦
      (let p = within-parts from to f e in
      let b : bits_in from to f ≡ f.bits = ap (λ (b : Bool). cond b f.bits 0) e in
      let c = bits_in-inside first last f (omega (arith, p.0)) (omega (arith, p.1)) in
      omega arith)
  | inr e ↦ (let b : bits_in from to f ≡ 0 = ap (λ (b : Bool). cond b f.bits 0) e in omega arith)
]

chosen-more : (b : Bool) (g : Frame → ℕ) (f : Frame) (fs : List Frame)
    → sum_by g (cond b (f ∷ fs) fs) ≡ cond b (g f) 0 + sum_by g fs
chosen-more true g f fs = sum_by-cons g f fs
chosen-more false g f fs = omega arith

pub bits_within-nil : (from to : ℕ) → bits_within [] from to ≡ 0
bits_within-nil from to = refl

-- one frame before the others
pub bits_within-cons : (f : Frame) (fs : List Frame) (from to : ℕ)
    → bits_within (f ∷ fs) from to ≡ bits_in from to f + bits_within fs from to
bits_within-cons f fs from to =
    chosen-more (is_within from to f) (λ (f : Frame). f.bits) f (filter (is_within from to) fs)

-- the bits of a window are a sum over all frames
pub bits_within-sum : (frames : List Frame) (from to : ℕ) → bits_within frames from to ≡ sum_by (bits_in from to) frames
bits_within-sum [] from to = refl
bits_within-sum (f ∷ fs) from to =
    bits_within-cons f fs from to ∙ ap (λ (n : ℕ). bits_in from to f + n) (bits_within-sum fs from to)
    ∙ sym (sum_by-cons (bits_in from to) f fs)

-- of two lists, one behind the other
pub bits_within-append : (front rest : List Frame) (from to : ℕ)
    → bits_within (front ++ rest) from to ≡ bits_within front from to + bits_within rest from to
bits_within-append front rest from to =
    let whole = bits_within-sum (front ++ rest) from to in
    let parts = sum_by-append (bits_in from to) front rest in
    let first = bits_within-sum front from to in
    let second = bits_within-sum rest from to in
    omega arith

-- one frame behind the others
pub bits_within-push : (frames : List Frame) (f : Frame) (from to : ℕ)
    → bits_within (frames ++ f ∷ []) from to ≡ bits_within frames from to + bits_in from to f
bits_within-push frames f from to =
    let all = bits_within-append frames (f ∷ []) from to in
    let one = bits_within-cons f [] from to in
    let none = bits_within-nil from to in
    omega arith

-- in whatever order the frames are listed
pub bits_within-permutation : (frames other : List Frame) (from to : ℕ) → IsPermutation frames other
    → bits_within other from to ≡ bits_within frames from to
bits_within-permutation frames other from to p =
    bits_within-sum other from to ∙ sum_by-IsPermutation (bits_in from to) frames other p
    ∙ sym (bits_within-sum frames from to)

-- a wider window holds no fewer bits
pub bits_within-wider : (frames : List Frame) (from to first last : ℕ) → first ≤ from → to ≤ last
    → bits_within frames from to ≤ bits_within frames first last
bits_within-wider frames from to first last h k =
    let each = sum_by-le-sum_by (bits_in from to) (bits_in first last) frames
    (λ (f : Frame). bits_in-wider from to first last f h k) in
    let narrow = bits_within-sum frames from to in
    let wide = bits_within-sum frames first last in
    omega arith

-- at most the bits of all frames
pub bits_within-le : (frames : List Frame) (from to : ℕ)
    → bits_within frames from to ≤ sum_by (λ (f : Frame). f.bits) frames
bits_within-le frames from to =
    let each = sum_by-le-sum_by (bits_in from to) (λ (f : Frame). f.bits) frames (bits_in-le from to) in
    let sum = bits_within-sum frames from to in
    omega arith
