use Rattle.std.proofs.Common.{◌≡◌, ℕ, ◌+◌, ◌-◌, ◌*◌, ◌<◌, ◌≤◌, max, List, [], ◌∷◌, ◌++◌, length, All}
use Rattle.std.proofs.Common.{get_or, refl, sym, ap, ◌∙◌, subst, inl, inr, arith}
use Rattle.std.specs.List.Sorted.{IsNonDecreasing}
use Rattle.std.proofs.lemmas.Bool.{cases_lt}
use Rattle.std.proofs.lemmas.List.{length_push, map-append, length-map, get_or-map, get_or_at}
use Rattle.std.proofs.lemmas.List.Sorted.{IsNonDecreasingBy-push}
use Rattle.std.proofs.lemmas.List.Sums.{sum_by_push}
use Rattle.ats_num.specs.declared.time.TheConstants.{PS_PER_SECOND}
use Rattle.ats_bucket.specs.Conforming.{Frame, Conforms, times_of, bits_between, time_between}
use Rattle.ats_conform.specs.MeterInside.{time_at, bits_before}
use Rattle.ats_conform.proofs.Places.{time-old, time-new, bits-old, bits-all, bits-split, time-split}
use Rattle.ats_conform.proofs.WorstPlaces.{given}
use Rattle.ats_fit.specs.Deficit.{bits_in, lacks_after, deficit_after, first_deficit, LacksSince, IsReached, IsDeficit}
use Rattle.ats_fit.specs.declared.deficit.Deficit.{Deficit}
use Rattle.ats_fit.proofs.Numbers.{bound-old, bound-new, reached-old, reached-new}

-- frames stay in order with one more that none of them is later than
pub order-push : (frames : List Frame) (x : Frame) → IsNonDecreasing (times_of frames)
    → All (λ (f : Frame). f.at ≤ x.at) frames → IsNonDecreasing (times_of (frames ++ x ∷ []))
order-push frames x sorted order =
    let time : Frame → ℕ = λ f. f.at in
    let size : length (times_of frames) ≡ length frames = length-map frames time in
    let last : (d : ℕ) → 0 < length (times_of frames)
    → get_or (times_of frames) (length (times_of frames) - 1) d ≤ x.at =
    λ d some. (
    let k : ℕ = length (times_of frames) - 1 in
    let below : k < length frames = omega arith in
    let one : get_or (times_of frames) k d ≡ (get_or frames k x).at = get_or-map time frames k x d below in
    omega (arith, order k x below, one)) in
    subst IsNonDecreasing (sym (map-append time frames (x ∷ [])))
    (IsNonDecreasingBy-push (λ (n : ℕ). n) (times_of frames) x.at sorted last)

-- the numbers of a list with one frame more
record Grown (frames : List Frame) (x : Frame) : Type 0 where
  count : length (frames ++ x ∷ []) ≡ length frames + 1
  bits : bits_in (frames ++ x ∷ []) ≡ bits_in frames + x.bits
  times : (i : ℕ) → i < length frames → time_at (frames ++ x ∷ []) i ≡ time_at frames i
  before : (i : ℕ) → i < length frames → bits_before (frames ++ x ∷ []) i ≡ bits_before frames i
  time : time_at (frames ++ x ∷ []) (length frames) ≡ x.at
  all : bits_before (frames ++ x ∷ []) (length frames) ≡ bits_in frames

grown : (frames : List Frame) (x : Frame) → Grown frames x
grown frames x = record {
  count = length_push frames x;
  bits = sum_by_push (λ (f : Frame). f.bits) frames x;
  times = λ i h. time-old frames x i h;
  before = λ i h. bits-old frames x i (omega arith);
  time = time-new frames x;
  all = bits-old frames x (length frames) (omega arith) ∙ bits-all frames;
}

-- a frame that comes when the rate gave so much more
upper-push : (rate gained lacks at at' : ℕ) (frames : List Frame) (x : Frame) → x.at ≡ at'
    → rate * at + gained ≡ rate * at' → ((i : ℕ) → i < length frames → LacksSince rate frames at lacks i)
    → (i : ℕ) → i < length (frames ++ x ∷ [])
    → LacksSince rate (frames ++ x ∷ []) at' (lacks_after lacks gained x.bits) i
upper-push rate gained lacks at at' frames x is gives upper i h =
    let g = grown frames x in
    let Lacks : ℕ → Type 0 = LacksSince rate (frames ++ x ∷ []) at' (lacks_after lacks gained x.bits) in
    elim (cases_lt i (length frames)) as (λ _. Lacks i) [
      | inl old ↦ (
          let bound = bound-old (rate * time_at frames i) (PS_PER_SECOND * bits_before frames i) (rate * at)
          (PS_PER_SECOND * bits_in frames) lacks gained (PS_PER_SECOND * x.bits) (upper i old) in
          rw (g.times i old, g.before i old, g.bits, ← gives) (omega (arith, bound)))
      | inr end ↦ (
          let last : length frames ≡ i = omega (arith, g.count) in
          let bound = bound-new (rate * at) (PS_PER_SECOND * bits_in frames) lacks gained (PS_PER_SECOND * x.bits) in
          subst Lacks last
          (rw (g.time, g.all, g.bits, is, ← gives) (omega (arith, bound))))
    ]

-- some frame reaches the deficit: the one that did, where the rate gave less
reached-kept : (rate gained lacks at at' : ℕ) (frames : List Frame) (x : Frame) → rate * at + gained ≡ rate * at'
    → gained < lacks → IsReached rate frames at lacks
    → IsReached rate (frames ++ x ∷ []) at' (lacks_after lacks gained x.bits)
reached-kept rate gained lacks at at' frames x gives less old =
    let g = grown frames x in
    let i : ℕ = old.place in
    let same = reached-old (rate * time_at frames i) (PS_PER_SECOND * bits_before frames i) (rate * at)
    (PS_PER_SECOND * bits_in frames) lacks gained (PS_PER_SECOND * x.bits) less old.since in
    record {
      place = i;
      within = omega (arith, g.count, old.within);
      since = rw (g.times i old.within, g.before i old.within, g.bits, ← gives) (omega (arith, same));
    }

-- or else the last one
reached-moved : (rate gained lacks at at' : ℕ) (frames : List Frame) (x : Frame) → x.at ≡ at'
    → rate * at + gained ≡ rate * at' → lacks ≤ gained
    → IsReached rate (frames ++ x ∷ []) at' (lacks_after lacks gained x.bits)
reached-moved rate gained lacks at at' frames x is gives full =
    let g = grown frames x in
    let same = reached-new (rate * at) (PS_PER_SECOND * bits_in frames) lacks gained (PS_PER_SECOND * x.bits) full in
    record {
      place = length frames;
      within = omega (arith, g.count);
      since = rw (g.time, g.all, g.bits, is, ← gives) (omega (arith, same));
    }

reached-push : (rate gained lacks at at' : ℕ) (frames : List Frame) (x : Frame) → x.at ≡ at'
    → rate * at + gained ≡ rate * at' → (0 < lacks → IsReached rate frames at lacks)
    → IsReached rate (frames ++ x ∷ []) at' (lacks_after lacks gained x.bits)
reached-push rate gained lacks at at' frames x is gives reached =
    elim (cases_lt gained lacks) as (λ _. IsReached rate (frames ++ x ∷ []) at' (lacks_after lacks gained x.bits)) [
      | inl less ↦ reached-kept rate gained lacks at at' frames x gives less (reached (omega arith))
      | inr full ↦ reached-moved rate gained lacks at at' frames x is gives full
    ]

-- what the last frame makes of the bits and the time since another one, in sums
record Ends (rate at : ℕ) (frames : List Frame) (last i : ℕ) : Type 0 where
  bits : bits_between frames i last + bits_before frames i ≡ bits_in frames
  gained : rate * time_at frames i + rate * time_between frames i last ≡ rate * at

ends : (rate at : ℕ) (frames : List Frame) (last i : ℕ) → last + 1 ≡ length frames → IsNonDecreasing (times_of frames)
    → time_at frames last ≡ at → i ≤ last → Ends rate at frames last i
ends rate at frames last i end sorted is h = record {
  bits = bits-split frames i last h ∙ ap (bits_before frames) end ∙ bits-all frames;
  gained = given rate (time_at frames i) (time_between frames i last) at
      (time-split frames i last sorted h (omega arith) ∙ is);
}

-- from a frame to the last one a bucket gives the bits whose burst is not below the deficit
within-by : (rate at lacks burst : ℕ) (frames : List Frame) (last i : ℕ) → Ends rate at frames last i
    → LacksSince rate frames at lacks i → lacks ≤ PS_PER_SECOND * burst
    → PS_PER_SECOND * bits_between frames i last ≤ rate * time_between frames i last + PS_PER_SECOND * burst
within-by rate at lacks burst frames last i e since small =
    let bits = ap (λ (n : ℕ). PS_PER_SECOND * n) e.bits in
    let gained = e.gained in
    omega arith

-- and only these
by-within : (rate at lacks burst : ℕ) (frames : List Frame) (last : ℕ) → (r : IsReached rate frames at lacks)
    → Ends rate at frames last r.place
    → PS_PER_SECOND * bits_between frames r.place last
    ≤ rate * time_between frames r.place last + PS_PER_SECOND * burst
    → lacks ≤ PS_PER_SECOND * burst
by-within rate at lacks burst frames last r e within =
    let bits = ap (λ (n : ℕ). PS_PER_SECOND * n) e.bits in
    let gained = e.gained in
    let since = r.since in
    omega arith

-- the bits and the time between two frames stay when one more comes
bits-between-old : (frames : List Frame) (x : Frame) (i j : ℕ) → i ≤ j → j < length frames
    → bits_between (frames ++ x ∷ []) i j ≡ bits_between frames i j
bits-between-old frames x i j h below =
    let split = bits-split (frames ++ x ∷ []) i j h in
    let was = bits-split frames i j h in
    let bi = bits-old frames x i (omega arith) in
    let bj = bits-old frames x (j + 1) (omega arith) in
    omega arith

time-between-old : (frames : List Frame) (x : Frame) (i j : ℕ) → i ≤ j → j < length frames
    → time_between (frames ++ x ∷ []) i j ≡ time_between frames i j
time-between-old frames x i j h below =
    let ti = time-old frames x i (omega arith) in
    let tj = time-old frames x j below in
    omega arith

-- where frames conform, all but the last do
conforms-fewer : (rate burst : ℕ) (frames : List Frame) (x : Frame) → IsNonDecreasing (times_of frames)
    → Conforms rate burst (frames ++ x ∷ []) → Conforms rate burst frames
conforms-fewer rate burst frames x sorted all = record {
  in_order = sorted;
  within = λ i j h below. (
      let bits = bits-between-old frames x i j h below in
      let time = time-between-old frames x i j h below in
      rw (← bits, ← time) (all.within i j h (omega (arith, length_push frames x))));
}

-- frames conform with one more where they do without it, and to the last one the bucket gives the bits
conforms-more : (rate burst : ℕ) (frames : List Frame) (x : Frame) → IsNonDecreasing (times_of (frames ++ x ∷ []))
    → Conforms rate burst frames
    → ((i : ℕ) → i ≤ length frames → PS_PER_SECOND * bits_between (frames ++ x ∷ []) i (length frames)
    ≤ rate * time_between (frames ++ x ∷ []) i (length frames) + PS_PER_SECOND * burst)
    → Conforms rate burst (frames ++ x ∷ [])
conforms-more rate burst frames x sorted old last = record {
  in_order = sorted;
  within = λ i j h below. (elim (cases_lt j (length frames))
      as (λ _. PS_PER_SECOND * bits_between (frames ++ x ∷ []) i j
      ≤ rate * time_between (frames ++ x ∷ []) i j + PS_PER_SECOND * burst) [
        | inl before ↦ (
            let bits = bits-between-old frames x i j h before in
            let time = time-between-old frames x i j h before in
            rw (bits, time) (old.within i j h before))
        | inr end ↦ (
            let is : length frames ≡ j = omega (arith, length_push frames x) in
            subst (λ (n : ℕ). PS_PER_SECOND * bits_between (frames ++ x ∷ []) i n
            ≤ rate * time_between (frames ++ x ∷ []) i n + PS_PER_SECOND * burst) is (last i (omega arith)))
      ]);
}

-- no frames lack nothing
pub deficit-first : (rate : ℕ) → IsDeficit [] (first_deficit rate)
deficit-first rate = record {
  in_order = λ i j d le below. absurd (omega arith);
  last = λ later all. omega arith;
  upper = λ i below. absurd (omega arith);
  reached = λ some. absurd (omega arith);
  few = omega arith;
  small = omega arith;
  most = λ burst. (
    (λ conforms. omega arith),
    (λ less. record {
      in_order = λ i j d le below. absurd (omega arith);
      within = λ i j le below. absurd (omega arith);
    }),
  );
}

-- one frame more
pub deficit-push : (frames : List Frame) (x : Frame) (d : Deficit) → IsDeficit frames d
    → All (λ (f : Frame). f.at ≤ x.at) frames → IsDeficit (frames ++ x ∷ []) (deficit_after d x.at x.bits)
deficit-push frames x d is order =
    let all : List Frame = frames ++ x ∷ [] in
    let gap : ℕ = x.at - d.at.0 in
    let gained : ℕ = d.rate * gap in
    let lacks : ℕ = lacks_after d.lacks gained x.bits in
    let early : d.at.0 ≤ x.at = is.last x.at order in
    let gives : d.rate * d.at.0 + gained ≡ d.rate * x.at = given d.rate d.at.0 gap x.at (omega arith) in
    let sorted : IsNonDecreasing (times_of all) = order-push frames x is.in_order order in
    let upper = upper-push d.rate gained d.lacks d.at.0 x.at frames x refl gives is.upper in
    let reached = reached-push d.rate gained d.lacks d.at.0 x.at frames x refl gives is.reached in
    let g = grown frames x in
    let end : (i : ℕ) → i ≤ length frames → Ends d.rate x.at all (length frames) i =
    λ i h. ends d.rate x.at all (length frames) i (sym g.count) sorted g.time h in
    let sum : PS_PER_SECOND * bits_in all ≡ PS_PER_SECOND * bits_in frames + PS_PER_SECOND * x.bits =
    omega (arith, g.bits) in
    let few : lacks ≤ PS_PER_SECOND * bits_in all = omega (arith, is.few) in
    let small : max d.most lacks ≤ PS_PER_SECOND * bits_in all = omega (arith, is.small) in
    record {
      in_order = sorted;
      last = λ later every. (
          let here : (get_or all (length frames) x).at ≤ later = every (length frames) x (omega (arith, g.count)) in
          let one : get_or all (length frames) x ≡ x = get_or_at frames x [] x (length frames) refl in
          omega (arith, here, ap (λ (f : Frame). f.at) one));
      upper = upper;
      reached = λ _. reached;
      few = few;
      small = small;
      most = λ burst. (
        (λ conforms. (
            let old : d.most ≤ PS_PER_SECOND * burst =
            (is.most burst).0 (conforms-fewer d.rate burst frames x is.in_order conforms) in
            let h : reached.place ≤ length frames = omega (arith, reached.within, g.count) in
            let new : lacks ≤ PS_PER_SECOND * burst =
            by-within d.rate x.at lacks burst all (length frames) reached (end reached.place h)
            (conforms.within reached.place (length frames) h (omega (arith, g.count))) in
            omega arith)),
        (λ less. conforms-more d.rate burst frames x sorted ((is.most burst).1 (omega arith))
            (λ i h. within-by d.rate x.at lacks burst all (length frames) i (end i h)
            (upper i (omega (arith, g.count))) (omega arith))),
      );
    }
