use Rattle.std.proofs.Common.{◌≡◌, ℕ, suc, ◌+◌, ◌-◌, ◌*◌, ◌<◌, ◌≤◌, ◌⊎◌, List, [], ◌∷◌, length, take, sum_by, All, refl}
use Rattle.std.proofs.Common.{ap, inl, inr, mul-le-mul_left, arith}
use Rattle.std.specs.Prelude.{slice_range, slice_index}
use Rattle.std.specs.List.Sorted.{IsNonDecreasingBy}
use Rattle.std.proofs.lemmas.Bool.{cases_lt}
use Rattle.std.proofs.lemmas.List.{length-map}
use Rattle.std.proofs.lemmas.List.Sums.{sum_by-cons}
use Rattle.std.proofs.lemmas.List.Elements.{All-head, All-tail, All-cons}
use Rattle.ats_num.specs.declared.time.TheConstants.{PS_PER_SECOND}
use Rattle.ats_bucket.specs.Conforming.{Frame, Conforms, times_of, bits_between, time_between}
use Rattle.ats_group_law.specs.Windows.{bits_within, ConformsByWindows}
use Rattle.ats_group_law.specs.Laws.{ConformingByWindows}
use Rattle.ats_group_law.proofs.Order.{time_at-is, by_frames, order-head, order-tail}
use Rattle.ats_group_law.proofs.WindowBits.{bits_in-before, bits_in-after, bits_in-le, bits_within-cons}
use Rattle.ats_group_law.proofs.WindowPieces.{bits_within-range-le, bits_within-inside, All-range}

-- frames that come after the window
all_after : (frames : List Frame) (from to : ℕ) → All (λ (f : Frame). to < f.at) frames → bits_within frames from to ≡ 0
all_after [] from to h = refl
all_after (f ∷ fs) from to h =
    let rest = all_after fs from to (All-tail (λ (f : Frame). to < f.at) f fs h) in
    let one = bits_in-after from to f (All-head (λ (f : Frame). to < f.at) f fs h) in
    let sum = bits_within-cons f fs from to in
    omega arith

-- a place of the list with the first frame in front
shifted : (j : ℕ) (f : Frame) (fs : List Frame) → take (suc j + 1) (f ∷ fs) ≡ f ∷ take (j + 1) fs
shifted j f fs = let e : suc j + 1 ≡ suc (j + 1) = omega arith in ap (λ (n : ℕ). take n (f ∷ fs)) e

-- the last place in the window, where the first frame is not after it
record LastPlace (frames : List Frame) (from to : ℕ) : Type 0 where
  place : ℕ
  within : place < length frames
  not_after : slice_index (times_of frames) place ≤ to
  bits : bits_within frames from to ≤ sum_by (λ (f : Frame). f.bits) (take (place + 1) frames)

only_first : (f : Frame) (fs : List Frame) (from to : ℕ) → f.at ≤ to → bits_within fs from to ≡ 0
    → LastPlace (f ∷ fs) from to
only_first f fs from to h none = record {
  place = 0;
  within = omega arith;
  not_after = h;
  bits =
      (let one = bits_in-le from to f in
      let sum = bits_within-cons f fs from to in
      let all = sum_by-cons (λ (f : Frame). f.bits) f [] in
      omega arith);
}

one_later : (f : Frame) (fs : List Frame) (from to : ℕ) → LastPlace fs from to → LastPlace (f ∷ fs) from to
one_later f fs from to l = record {
  place = suc l.place;
  within = (let w = l.within in omega arith);
  not_after = l.not_after;
  bits = rw (shifted l.place f fs) (
      let one = bits_in-le from to f in
      let sum = bits_within-cons f fs from to in
      let all = sum_by-cons (λ (f : Frame). f.bits) f (take (l.place + 1) fs) in
      let rest = l.bits in
      omega arith);
}

all_later : (g : Frame) (fs : List Frame) (to : ℕ) → IsNonDecreasingBy (λ (f : Frame). f.at) (g ∷ fs) → to < g.at
    → All (λ (f : Frame). to < f.at) (g ∷ fs)
all_later g fs to o h =
    All-cons (λ (f : Frame). to < f.at) g fs h (λ i d k. (let a = order-head g fs o i d k in omega arith))

last_place : (f : Frame) (fs : List Frame) (from to : ℕ) → IsNonDecreasingBy (λ (f : Frame). f.at) (f ∷ fs) → f.at ≤ to
    → LastPlace (f ∷ fs) from to
last_place f [] from to o h = only_first f [] from to h refl
last_place f (g ∷ fs) from to o h =
    let tail = order-tail f (g ∷ fs) o in
    elim (cases_lt to g.at) [
      | inl k ↦ only_first f (g ∷ fs) from to h (all_after (g ∷ fs) from to (all_later g fs to tail k))
      | inr k ↦ one_later f (g ∷ fs) from to (last_place g fs from to tail k)
    ]

-- the places of a window that is not empty
record Places (frames : List Frame) (from to : ℕ) : Type 0 where
  first : ℕ
  last : ℕ
  ordered : first ≤ last
  within : last < length frames
  not_before : from ≤ slice_index (times_of frames) first
  not_after : slice_index (times_of frames) last ≤ to
  bits : bits_within frames from to ≤ bits_between frames first last

from_first : (frames : List Frame) (from to : ℕ) → from ≤ slice_index (times_of frames) 0 → LastPlace frames from to
    → Places frames from to
from_first frames from to h l = record {
  first = 0;
  last = l.place;
  ordered = omega arith;
  within = l.within;
  not_before = h;
  not_after = l.not_after;
  bits = (let e : l.place + 1 - 0 ≡ l.place + 1 = omega arith in rw e l.bits);
}

places_later : (f : Frame) (fs : List Frame) (from to : ℕ) → f.at < from → Places fs from to → Places (f ∷ fs) from to
places_later f fs from to h p = record {
  first = suc p.first;
  last = suc p.last;
  ordered = (let o = p.ordered in omega arith);
  within = (let w = p.within in omega arith);
  not_before = p.not_before;
  not_after = p.not_after;
  bits =
      (let e : suc p.last + 1 - suc p.first ≡ p.last + 1 - p.first = omega arith in
      rw e (
      let none = bits_in-before from to f h in
      let sum = bits_within-cons f fs from to in
      let rest = p.bits in
      omega arith));
}

places_of : (frames : List Frame) (from to : ℕ) → IsNonDecreasingBy (λ (f : Frame). f.at) frames
    → (bits_within frames from to ≡ 0) ⊎ Places frames from to
places_of [] from to o = inl refl
places_of (f ∷ fs) from to o =
    elim (cases_lt f.at from) as (λ _. (bits_within (f ∷ fs) from to ≡ 0) ⊎ Places (f ∷ fs) from to) [
      | inl h ↦ elim (places_of fs from to (order-tail f fs o)) as (λ _. (bits_within (f ∷ fs) from to ≡ 0)
          ⊎ Places (f ∷ fs) from to) [
            | inl none ↦ inl (
                let one = bits_in-before from to f h in
                let sum = bits_within-cons f fs from to in
                omega arith)
            | inr p ↦ inr (places_later f fs from to h p)
          ]
      | inr h ↦ elim (cases_lt to f.at) as (λ _. (bits_within (f ∷ fs) from to ≡ 0) ⊎ Places (f ∷ fs) from to) [
        | inl k ↦ inl (all_after (f ∷ fs) from to (all_later f fs to o k))
        | inr k ↦ inr (from_first (f ∷ fs) from to h (last_place f fs from to o k))
      ]
    ]

-- a longer time gives no fewer bits
longer : (rate burst bits more short long : ℕ) → bits ≤ more → short ≤ long → PS_PER_SECOND * more
    ≤ rate * short + PS_PER_SECOND * burst → PS_PER_SECOND * bits ≤ rate * long + PS_PER_SECOND * burst
longer rate burst bits more short long b t h = omega (arith, mul-le-mul_left rate t)

pub windows_from_places : (rate burst : ℕ) (frames : List Frame) → Conforms rate burst frames
    → ConformsByWindows rate burst frames
windows_from_places rate burst frames c = record {
  in_order = c.in_order;
  windows = record {
    within = λ from to h. elim (places_of frames from to (by_frames frames c.in_order)) [
      | inl none ↦ (let e : PS_PER_SECOND * bits_within frames from to ≡ 0 = omega arith in omega arith)
      | inr p ↦ longer rate burst (bits_within frames from to) (bits_between frames p.first p.last)
          (time_between frames p.first p.last) (to - from) p.bits
          (let b = p.not_before in let a = p.not_after in omega arith)
          (c.within p.first p.last p.ordered p.within)
    ];
  };
}

-- the frames from one place to another are in the window of their times
between_within : (frames : List Frame) (i j : ℕ) → IsNonDecreasingBy (λ (f : Frame). f.at) frames → j < length frames
    → bits_between frames i j ≤ bits_within frames (slice_index (times_of frames) i) (slice_index (times_of frames) j)
between_within frames i j o h =
    let from : ℕ = slice_index (times_of frames) i in
    let to : ℕ = slice_index (times_of frames) j in
    let inside = All-range (λ (f : Frame). (from ≤ f.at) × (f.at ≤ to)) frames i (j + 1) (omega arith)
    (λ k d p q. (
    let first = time_at-is frames i 0 d (omega arith) in
    let last = time_at-is frames j 0 d h in
    let low = o i k d p (omega arith) in
    let high = o k j d (omega arith) h in
    (omega arith, omega arith))) in
    let whole = bits_within-inside (slice_range frames i (j + 1)) from to inside in
    let part = bits_within-range-le frames i (j + 1) from to in
    omega arith

pub places_from_windows : (rate burst : ℕ) (frames : List Frame) → ConformsByWindows rate burst frames
    → Conforms rate burst frames
places_from_windows rate burst frames c = record {
  in_order = c.in_order;
  within = λ i j h k. (
      let ordered = c.in_order i j 0 h (rw (length-map frames (λ (f : Frame). f.at)) k) in
      longer rate burst (bits_between frames i j) _ _ (time_between frames i j)
      (between_within frames i j (by_frames frames c.in_order) k) (omega arith)
      (c.windows.within _ _ ordered));
}

pub by_windows : ConformingByWindows
by_windows rate burst frames = (windows_from_places rate burst frames, places_from_windows rate burst frames)
