use Rattle.std.proofs.Common.{◌≡◌, ℕ, ◌+◌, ◌-◌, ◌<◌, ◌≤◌, Bool, true, false, cond, List, [], ◌∷◌, length, get_or, drop}
use Rattle.std.proofs.Common.{sum_by, filter, All, refl, ◌∙◌, arith}
use Rattle.std.specs.Prelude.{slice_range}
use Rattle.std.proofs.lemmas.List.{get_or-take, get_or-drop, length-drop, length-take}
use Rattle.std.proofs.lemmas.List.Sums.{sum_by-cons, sum_by-take-le, sum_by-take-drop}
use Rattle.std.proofs.lemmas.List.Elements.{All-head, All-tail}
use Rattle.ats_bucket.specs.Conforming.{Frame}
use Rattle.ats_group_law.specs.Windows.{bits_within}
use Rattle.ats_group_law.proofs.WindowBits.{bits_in, bits_in-inside, bits_within-cons, bits_within-sum}

chosen-le : {X : Type 0} (g : X → ℕ) (b : Bool) (x : X) (part whole : List X) → sum_by g part ≤ sum_by g whole
    → sum_by g (cond b (x ∷ part) part) ≤ sum_by g (x ∷ whole)
chosen-le g true x part whole h = omega (arith, sum_by-cons g x part, sum_by-cons g x whole)
chosen-le g false x part whole h = omega (arith, sum_by-cons g x whole)

-- a sum over a part of a list
pub sum_by-filter-le : {X : Type 0} (g : X → ℕ) (test : X → Bool) (xs : List X)
    → sum_by g (filter test xs) ≤ sum_by g xs
sum_by-filter-le g test [] = omega arith
sum_by-filter-le g test (x ∷ xs) = chosen-le g (test x) x (filter test xs) xs (sum_by-filter-le g test xs)

pub sum_by-range-le : {X : Type 0} (g : X → ℕ) (xs : List X) (i j : ℕ) → sum_by g (slice_range xs i j) ≤ sum_by g xs
sum_by-range-le g xs i j =
    let part = sum_by-take-le g (drop i xs) (j - i) in
    let rest = sum_by-take-drop g xs i in
    omega arith

-- the bits of a window in a part of the frames
pub bits_within-filter-le : (test : Frame → Bool) (frames : List Frame) (from to : ℕ)
    → bits_within (filter test frames) from to ≤ bits_within frames from to
bits_within-filter-le test frames from to =
    let part = bits_within-sum (filter test frames) from to in
    let whole = bits_within-sum frames from to in
    let le = sum_by-filter-le (bits_in from to) test frames in
    omega arith

pub bits_within-range-le : (frames : List Frame) (i j from to : ℕ)
    → bits_within (slice_range frames i j) from to ≤ bits_within frames from to
bits_within-range-le frames i j from to =
    let part = bits_within-sum (slice_range frames i j) from to in
    let whole = bits_within-sum frames from to in
    let le = sum_by-range-le (bits_in from to) frames i j in
    omega arith

-- frames that all are in the window
pub bits_within-inside : (frames : List Frame) (from to : ℕ) → All (λ (f : Frame). (from ≤ f.at) × (f.at ≤ to)) frames
    → bits_within frames from to ≡ sum_by (λ (f : Frame). f.bits) frames
bits_within-inside [] from to h = refl
bits_within-inside (f ∷ fs) from to h =
    let head = All-head (λ (f : Frame). (from ≤ f.at) × (f.at ≤ to)) f fs h in
    let one = bits_in-inside from to f head.0 head.1 in
    let rest = bits_within-inside fs from to (All-tail (λ (f : Frame). (from ≤ f.at) × (f.at ≤ to)) f fs h) in
    let bits = sum_by-cons (λ (f : Frame). f.bits) f fs in
    let sum = bits_within-cons f fs from to in
    omega arith

-- a fact of the places of a part
pub All-range : {X : Type 0} (P : X → Type 0) (xs : List X) (i j : ℕ) → j ≤ length xs
    → ((k : ℕ) (d : X) → i ≤ k → k < j → P (get_or xs k d)) → All P (slice_range xs i j)
All-range {X} P xs i j h each k d within =
    let size = length-take (j - i) (drop i xs) in
    let left = length-drop i xs in
    let inside : k < j - i = omega arith in
    let e : get_or (slice_range xs i j) k d ≡ get_or xs (i + k) d =
    get_or-take (j - i) (drop i xs) k d inside ∙ get_or-drop i xs k d in
    rw e (each (i + k) d (omega arith) (omega arith))
