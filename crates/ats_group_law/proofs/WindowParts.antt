use Rattle.std.proofs.Common.{◌≡◌, ℕ, ◌+◌, ◌-◌, ◌≤◌, Bool, List, [], ◌∷◌, ◌++◌, drop, mul-le-mul_right, map, filter}
use Rattle.std.proofs.Common.{sum_by, refl, sym, ap, ◌∙◌, arith}
use Rattle.std.specs.Prelude.{slice_range, IsPermutation}
use Rattle.std.proofs.lemmas.List.Sums.{sum_by-cons}
use Rattle.std.proofs.lemmas.List.Kept.{IsNonDecreasingBy-filter}
use Rattle.std.proofs.lemmas.List.Sorted.{IsNonDecreasingBy-take, IsNonDecreasingBy-drop}
use Rattle.ats_bucket.specs.Conforming.{Frame}
use Rattle.ats_group_law.specs.Windows.{bits_within, KeepsWindows, ConformsByWindows}
use Rattle.ats_group_law.proofs.Order.{by_frames, from_frames}
use Rattle.ats_group_law.proofs.WindowBits.{bits_in, bits_within-cons, bits_within-append, bits_within-permutation}
use Rattle.ats_group_law.proofs.WindowPieces.{bits_within-filter-le, bits_within-range-le}

-- the bits of a window of frames that are made of the elements of another list
pub bits_within-map : {X : Type 0} (frame_of : X → Frame) (xs : List X) (from to : ℕ)
    → bits_within (map frame_of xs) from to ≡ sum_by (λ (x : X). bits_in from to (frame_of x)) xs
bits_within-map frame_of [] from to = refl
bits_within-map {X} frame_of (x ∷ xs) from to =
    bits_within-cons (frame_of x) (map frame_of xs) from to
    ∙ ap (λ (n : ℕ). bits_in from to (frame_of x) + n) (bits_within-map frame_of xs from to)
    ∙ sym (sum_by-cons (λ (x : X). bits_in from to (frame_of x)) x xs)

-- where no window of the other frames holds more, they keep the windows too
pub KeepsWindows-fewer : (rate burst : ℕ) (frames other : List Frame)
    → ((from to : ℕ) → bits_within other from to ≤ bits_within frames from to) → KeepsWindows rate burst frames
    → KeepsWindows rate burst other
KeepsWindows-fewer rate burst frames other fewer k = record {
  within = λ from to h. (
      let le = fewer from to in
      let w = k.within from to h in
      omega arith);
}

-- in whatever order the frames are listed
pub KeepsWindows-permutation : (rate burst : ℕ) (frames other : List Frame) → IsPermutation frames other
    → KeepsWindows rate burst frames → KeepsWindows rate burst other
KeepsWindows-permutation rate burst frames other p k =
    KeepsWindows-fewer rate burst frames other
    (λ from to. (let e = bits_within-permutation frames other from to p in omega arith)) k

pub KeepsWindows-filter : (rate burst : ℕ) (test : Frame → Bool) (frames : List Frame) → KeepsWindows rate burst frames
    → KeepsWindows rate burst (filter test frames)
KeepsWindows-filter rate burst test frames k =
    KeepsWindows-fewer rate burst frames (filter test frames) (bits_within-filter-le test frames) k

pub KeepsWindows-range : (rate burst : ℕ) (frames : List Frame) (i j : ℕ) → KeepsWindows rate burst frames
    → KeepsWindows rate burst (slice_range frames i j)
KeepsWindows-range rate burst frames i j k =
    KeepsWindows-fewer rate burst frames (slice_range frames i j) (bits_within-range-le frames i j) k

pub KeepsWindows-front : (rate burst : ℕ) (front rest : List Frame) → KeepsWindows rate burst (front ++ rest)
    → KeepsWindows rate burst front
KeepsWindows-front rate burst front rest k =
    KeepsWindows-fewer rate burst (front ++ rest) front
    (λ from to. (let e = bits_within-append front rest from to in omega arith)) k

pub KeepsWindows-rest : (rate burst : ℕ) (front rest : List Frame) → KeepsWindows rate burst (front ++ rest)
    → KeepsWindows rate burst rest
KeepsWindows-rest rate burst front rest k =
    KeepsWindows-fewer rate burst (front ++ rest) rest
    (λ from to. (let e = bits_within-append front rest from to in omega arith)) k

-- a greater burst and a greater rate allow no less
pub KeepsWindows-wider : (rate burst more larger : ℕ) (frames : List Frame) → rate ≤ more → burst ≤ larger
    → KeepsWindows rate burst frames → KeepsWindows more larger frames
KeepsWindows-wider rate burst more larger frames h g k = record {
  within = λ from to o. omega (arith, k.within from to o, mul-le-mul_right (to - from) h);
}

-- a filter, and a part from place to place, of frames that conform
pub ConformsByWindows-filter : (rate burst : ℕ) (test : Frame → Bool) (frames : List Frame)
    → ConformsByWindows rate burst frames → ConformsByWindows rate burst (filter test frames)
ConformsByWindows-filter rate burst test frames c = record {
  in_order = from_frames (filter test frames)
      (IsNonDecreasingBy-filter (λ (f : Frame). f.at) test frames (by_frames frames c.in_order));
  windows = KeepsWindows-filter rate burst test frames c.windows;
}

pub ConformsByWindows-range : (rate burst : ℕ) (frames : List Frame) (i j : ℕ) → ConformsByWindows rate burst frames
    → ConformsByWindows rate burst (slice_range frames i j)
ConformsByWindows-range rate burst frames i j c = record {
  in_order = from_frames (slice_range frames i j)
      (IsNonDecreasingBy-take (λ (f : Frame). f.at) (j - i) (drop i frames)
      (IsNonDecreasingBy-drop (λ (f : Frame). f.at) i frames (by_frames frames c.in_order)));
  windows = KeepsWindows-range rate burst frames i j c.windows;
}
