use Rattle.std.proofs.Common.{◌≡◌, ℕ, ◌+◌, ◌-◌, ◌*◌, ◌<◌, ◌≤◌, List, [], ◌∷◌, length, get_or, map, sum_by, take, drop}
use Rattle.std.proofs.Common.{refl, sym, ap, ◌∙◌, inl, inr, mul-le-mul_left, mul-le-mul_right, arith}
use Rattle.std.specs.Prelude.{AllPairs, slice_index, slice_range}
use Rattle.std.specs.List.Sorted.{IsNonDecreasing, IsNonDecreasingBy}
use Rattle.std.proofs.Math.Nat.{le_of_mul-le-mul_left}
use Rattle.std.proofs.lemmas.Bool.{cases_lt}
use Rattle.std.proofs.lemmas.List.{get_or-map, length-map, take-map, drop-map}
use Rattle.std.proofs.lemmas.List.Sums.{sum_by-cons}
use Rattle.ats_num.specs.declared.time.TheConstants.{PS_PER_SECOND}
use Rattle.ats_bucket.specs.Conforming.{Frame, times_of, bits_between, time_between}
use Rattle.ats_group_law.proofs.Order.{from_frames, time_at-is}
use Rattle.ats_clock.specs.declared.committed.Committed.{Committed}
use Rattle.ats_clock_law.specs.Retiming.{AreEnough, ConformTo, RetimedConform, TwiceTimed}

-- a frame of this time and these bits of an element
abbrev pub framed : {X : Type 0} → (X → ℕ) → (X → ℕ) → X → Frame
framed at bits x = record { at = at x; bits = bits x }

-- from each element to itself and to each later one
abbrev pub Gains : {X : Type 0} → ℕ → ℕ → ℕ → (X → ℕ) → (X → ℕ) → X → X → Type 0
Gains a u v first second x y = a * (first y - first x) ≤ u * (second y - second x) + v

sum-framed : {X : Type 0} (at bits : X → ℕ) (xs : List X)
    → sum_by (λ (f : Frame). f.bits) (map (framed at bits) xs) ≡ sum_by bits xs
sum-framed at bits [] = refl
sum-framed at bits (x ∷ xs) =
    sum_by-cons (λ (f : Frame). f.bits) (framed at bits x) (map (framed at bits) xs)
    ∙ ap (λ (n : ℕ). bits x + n) (sum-framed at bits xs)
    ∙ sym (sum_by-cons bits x xs)

-- the bits from one place to another do not depend on the times
bits-framed : {X : Type 0} (at bits : X → ℕ) (xs : List X) (i j : ℕ)
    → bits_between (map (framed at bits) xs) i j ≡ sum_by bits (slice_range xs i (j + 1))
bits-framed at bits xs i j =
    ap (λ (fs : List Frame). sum_by (λ (f : Frame). f.bits) (take (j + 1 - i) fs)) (drop-map (framed at bits) i xs)
    ∙ ap (λ (fs : List Frame). sum_by (λ (f : Frame). f.bits) fs)
    (take-map (framed at bits) (j + 1 - i) (drop i xs))
    ∙ sum-framed at bits (slice_range xs i (j + 1))

-- the time at a place
time-framed : {X : Type 0} (at bits : X → ℕ) (xs : List X) (i : ℕ) (d : X) → i < length xs
    → slice_index (times_of (map (framed at bits) xs)) i ≡ at (get_or xs i d)
time-framed at bits xs i d h =
    time_at-is (map (framed at bits) xs) i 0 (framed at bits d) (rw (length-map xs (framed at bits)) h)
    ∙ ap (λ (f : Frame). f.at) (get_or-map (framed at bits) xs i d (framed at bits d) h)

order-framed : {X : Type 0} (at bits : X → ℕ) (xs : List X) → IsNonDecreasingBy at xs
    → IsNonDecreasing (times_of (map (framed at bits) xs))
order-framed at bits [] o = λ i j d h k. absurd (omega arith)
order-framed at bits (x ∷ xs) o =
    from_frames (map (framed at bits) (x ∷ xs)) (λ i j d h k. (
    let within : j < length (x ∷ xs) = rw (length-map (x ∷ xs) (framed at bits)) at k in
    let first = get_or-map (framed at bits) (x ∷ xs) i x d (omega arith) in
    let second = get_or-map (framed at bits) (x ∷ xs) j x d within in
    rw (first, second) (o i j x h within)))

pub order-unframed : {X : Type 0} (at bits : X → ℕ) (xs : List X)
    → IsNonDecreasing (times_of (map (framed at bits) xs)) → IsNonDecreasingBy at xs
order-unframed at bits xs o i j d h k =
    let first = time-framed at bits xs i d (omega arith) in
    let second = time-framed at bits xs j d k in
    let le = o i j 0 h
    (rw (length-map (map (framed at bits) xs) (λ (f : Frame). f.at), length-map xs (framed at bits)) k) in
    omega arith

-- a window from the first frame to the last, multiplied
pub window : (a u v rate burst more larger bits old gained : ℕ) → 1 ≤ a → rate * u ≤ more * a
    → rate * v + a * PS_PER_SECOND * burst ≤ a * PS_PER_SECOND * larger → a * old ≤ u * gained + v
    → PS_PER_SECOND * bits ≤ rate * old + PS_PER_SECOND * burst
    → PS_PER_SECOND * bits ≤ more * gained + PS_PER_SECOND * larger
window a u v rate burst more larger bits old gained p r b g w =
    let whole = mul-le-mul_left a w in
    let time = mul-le-mul_left rate g in
    let given = mul-le-mul_right gained r in
    let sum : a * (PS_PER_SECOND * bits) ≤ a * (more * gained + PS_PER_SECOND * larger) = omega arith in
    le_of_mul-le-mul_left sum p

-- from each place to itself and each later one
at_places : {X : Type 0} (a u v : ℕ) (first second : X → ℕ) (xs : List X) (d : X) (i j : ℕ) → i ≤ j → j < length xs
    → AllPairs (Gains a u v first second) xs → Gains a u v first second (get_or xs i d) (get_or xs j d)
at_places a u v first second xs d i j h k g = elim (cases_lt i j) [
  | inl l ↦ g i j d l k
  | inr l ↦
      (let same : i ≡ j = omega arith in
      let f : first (get_or xs i d) ≡ first (get_or xs j d) = ap (λ (n : ℕ). first (get_or xs n d)) same in
      let none : first (get_or xs j d) - first (get_or xs i d) ≡ 0 = omega arith in
      rw none (omega arith))
]

-- a window of the retimed frames
within_at : {X : Type 0} (a u v : ℕ) (before after : Committed) (first second bits : X → ℕ) (xs : List X) (d : X)
    (i j : ℕ) → i ≤ j → j < length xs → AllPairs (Gains a u v first second) xs → AreEnough a u v before after
    → ConformTo before (map (framed first bits) xs)
    → PS_PER_SECOND * bits_between (map (framed second bits) xs) i j
    ≤ after.rate * time_between (map (framed second bits) xs) i j + PS_PER_SECOND * after.burst_bits
within_at a u v before after first second bits xs d i j h k g e c =
    let w = c.within i j h (rw (length-map xs (framed first bits)) k) in
    let old = bits-framed first bits xs i j in
    let new = bits-framed second bits xs i j in
    let p = time-framed first bits xs i d (omega arith) in
    let q = time-framed first bits xs j d k in
    let r = time-framed second bits xs i d (omega arith) in
    let s = time-framed second bits xs j d k in
    let gains = at_places a u v first second xs d i j h k g in
    window a u v before.rate before.burst_bits after.rate after.burst_bits
    (bits_between (map (framed second bits) xs) i j) (time_between (map (framed first bits) xs) i j)
    (time_between (map (framed second bits) xs) i j) e.positive e.rate e.burst (rw (p, q, r, s) gains)
    (rw (new, ← old) w)

-- retiming, of the elements of any list
pub retimed : {X : Type 0} (a u v : ℕ) (before after : Committed) (first second bits : X → ℕ) (xs : List X)
    → IsNonDecreasingBy second xs → AllPairs (Gains a u v first second) xs → AreEnough a u v before after
    → ConformTo before (map (framed first bits) xs) → ConformTo after (map (framed second bits) xs)
retimed a u v before after first second bits [] o g e c = record {
  in_order = order-framed second bits [] o;
  within = λ i j h k. absurd (omega arith);
}
retimed a u v before after first second bits (x ∷ xs) o g e c = record {
  in_order = order-framed second bits (x ∷ xs) o;
  within = λ i j h k.
      within_at a u v before after first second bits (x ∷ xs) x i j h
      (rw (length-map (x ∷ xs) (framed second bits)) at k) g e c;
}

pub retimed_conform : RetimedConform
retimed_conform a u v before after frames r e c =
    retimed a u v before after (λ (f : TwiceTimed). f.first) (λ (f : TwiceTimed). f.second)
    (λ (f : TwiceTimed). f.bits) frames r.in_order r.gains e c
