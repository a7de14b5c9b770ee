use Rattle.std.proofs.Common.{◌≡◌, ℕ, ◌+◌, ◌-◌, ◌*◌, ◌<◌, ◌≤◌, true, false, List, [], ◌∷◌, ◌++◌, length, sum_by}
use Rattle.std.proofs.Common.{get_or, All, sym, ap, ◌∙◌, subst, arith}
use Rattle.std.specs.Prelude.{pos, ◌-ℤ◌, ◌<ℤ◌}
use Rattle.std.specs.List.Sorted.{IsNonDecreasing}
use Rattle.std.proofs.lemmas.Int.{ints}
use Rattle.std.proofs.lemmas.Bool.{ltb-true, ltb-false}
use Rattle.std.proofs.lemmas.List.{map-append, length-map, get_or-map, length_push}
use Rattle.std.proofs.lemmas.List.Sorted.{IsNonDecreasingBy-push}
use Rattle.ats_num.specs.declared.time.TheConstants.{PS_PER_SECOND}
use Rattle.ats_bucket.specs.Conforming.{Frame, Conforms, times_of, bits_between, time_between}
use Rattle.ats_conform.specs.declared.meter.Metered.{Metered}
use Rattle.ats_conform.specs.declared.start.Start.{Start}
use Rattle.ats_conform.specs.Metering.{Names, counted, frame_in}
use Rattle.ats_conform.specs.Start.{is_over}
use Rattle.ats_conform.specs.MeterInside.{time_at, bits_before, IsWorstPlace, IsWorst}
use Rattle.ats_conform.proofs.Places.{time-new, bits-next, bits-split}
use Rattle.ats_conform.proofs.Excesses.{exceeds, conforms-push}
use Rattle.ats_conform.proofs.Taken.{sum-counted}

-- frames stay in order with one more that none of them is later than
order-push : (taken : List Metered) (x : Metered) → IsNonDecreasing (times_of (counted taken))
    → All (λ (m : Metered). m.at.0 ≤ x.at.0) taken → IsNonDecreasing (times_of (counted (taken ++ x ∷ [])))
order-push taken x sorted order =
    let time : Frame → ℕ = λ f. f.at in
    let same : times_of (counted (taken ++ x ∷ [])) ≡ times_of (counted taken) ++ x.at.0 ∷ [] =
    ap times_of (map-append frame_in taken (x ∷ [])) ∙ map-append time (counted taken) (frame_in x ∷ []) in
    let size : length (times_of (counted taken)) ≡ length taken =
    length-map (counted taken) time ∙ length-map taken frame_in in
    let last : (d : ℕ) → 0 < length (times_of (counted taken))
    → get_or (times_of (counted taken)) (length (times_of (counted taken)) - 1) d ≤ x.at.0 =
    λ d some. (
    let k : ℕ = length (times_of (counted taken)) - 1 in
    let below : k < length taken = omega arith in
    let one : get_or (times_of (counted taken)) k d ≡ (get_or (counted taken) k (frame_in x)).at =
    get_or-map time (counted taken) k (frame_in x) d (omega (arith, length-map taken frame_in)) in
    let two : (get_or (counted taken) k (frame_in x)).at ≡ (get_or taken k x).at.0 =
    ap time (get_or-map frame_in taken k x (frame_in x) below) in
    omega (arith, order k x below, one, two)) in
    subst IsNonDecreasing (sym same)
    (IsNonDecreasingBy-push (λ (n : ℕ). n) (times_of (counted taken)) x.at.0 sorted last)

-- what the frame that comes next makes of the worst start: the time since then, and the bits
pub record Since (taken : List Metered) (x : Metered) (place time bits : ℕ) : Type 0 where
  pub times : time_between (counted (taken ++ x ∷ [])) place (length taken) ≡ time
  pub sums : bits_between (counted (taken ++ x ∷ [])) place (length taken) ≡ bits

since : (rate : ℕ) (taken : List Metered) (x : Metered) (start : Start) (w : IsWorst rate (taken ++ x ∷ []) start)
    → (before : ℕ) → sum_by (λ (m : Metered). m.bits) taken ≡ before
    → Since taken x w.place (x.at.0 - start.at.0) (before + x.bits - start.before)
since rate taken x start w before sent =
    let all : List Frame = counted (taken ++ x ∷ []) in
    let same : all ≡ counted taken ++ frame_in x ∷ [] = map-append frame_in taken (x ∷ []) in
    let size : length (counted taken) ≡ length taken = length-map taken frame_in in
    let last : time_at all (length taken) ≡ x.at.0 =
    ap (λ (l : List Frame). time_at l (length taken)) same
    ∙ ap (λ (n : ℕ). time_at (counted taken ++ frame_in x ∷ []) n) (sym size)
    ∙ time-new (counted taken) (frame_in x) in
    let whole : bits_before all (length taken + 1) ≡ before + x.bits =
    ap (λ (l : List Frame). bits_before l (length taken + 1)) same
    ∙ ap (λ (n : ℕ). bits_before (counted taken ++ frame_in x ∷ []) (n + 1)) (sym size)
    ∙ bits-next (counted taken) (frame_in x) ∙ ap (λ (n : ℕ). n + x.bits) (sum-counted taken ∙ sent) in
    let grown : length all ≡ length taken + 1 =
    length-map (taken ++ x ∷ []) frame_in ∙ length_push taken x in
    let here : w.place ≤ length taken = omega (arith, w.worst.within) in
    let split = bits-split all w.place (length taken) here in
    let from : bits_before all w.place ≡ start.before = w.bits in
    let then : time_at all w.place ≡ start.at.0 = w.time in
    record { times = omega arith; sums = omega arith }

-- where the meter finds a frame over, it names the start that it found
pub named : (rate burst : ℕ) (taken : List Metered) (x : Metered) (before : ℕ) (start : Start)
    → Conforms rate burst (counted taken) → All (λ (m : Metered). m.at.0 ≤ x.at.0) taken
    → sum_by (λ (m : Metered). m.bits) taken ≡ before → IsWorst rate (taken ++ x ∷ []) start
    → is_over rate burst start x.at.0 (before + x.bits) ≡ true → Names rate burst taken x start.frame
named rate burst taken x before start old order sent w over =
    let is = since rate taken x start w before sent in
    let more = ltb-true _ _ over in
    record {
      place = w.place;
      number = w.number;
      exceeds = exceeds rate burst (counted (taken ++ x ∷ [])) (length taken) w.place
          (sym (length-map (taken ++ x ∷ []) frame_in ∙ length_push taken x)) (order-push taken x old.in_order order)
          w.worst (rw (is.times, is.sums) more);
    }

-- where it does not, they conform
pub conform-on : (rate burst : ℕ) (taken : List Metered) (x : Metered) (before : ℕ) (start : Start)
    → Conforms rate burst (counted taken) → All (λ (m : Metered). m.at.0 ≤ x.at.0) taken
    → sum_by (λ (m : Metered). m.bits) taken ≡ before → IsWorst rate (taken ++ x ∷ []) start
    → is_over rate burst start x.at.0 (before + x.bits) ≡ false → Conforms rate burst (counted (taken ++ x ∷ []))
conform-on rate burst taken x before start old order sent w fits =
    let is = since rate taken x start w before sent in
    let no_more = ltb-false _ _ fits in
    let same : counted (taken ++ x ∷ []) ≡ counted taken ++ frame_in x ∷ [] = map-append frame_in taken (x ∷ []) in
    let size : length taken ≡ length (counted taken) = sym (length-map taken frame_in) in
    let sorted : IsNonDecreasing (times_of (counted taken ++ frame_in x ∷ [])) =
    subst (λ (l : List Frame). IsNonDecreasing (times_of l)) same (order-push taken x old.in_order order) in
    let worst : IsWorstPlace rate (counted taken ++ frame_in x ∷ []) w.place =
    subst (λ (l : List Frame). IsWorstPlace rate l w.place) same w.worst in
    let Fits : List Frame → ℕ → Type 0 = λ l n. PS_PER_SECOND * bits_between l w.place n
    ≤ rate * time_between l w.place n + PS_PER_SECOND * burst in
    let here : Fits (counted (taken ++ x ∷ [])) (length taken) = rw (is.times, is.sums) no_more in
    let there : Fits (counted taken ++ frame_in x ∷ []) (length (counted taken)) =
    subst (Fits (counted taken ++ frame_in x ∷ [])) size
    (subst (λ (l : List Frame). Fits l (length taken)) same here) in
    subst (Conforms rate burst) (sym same)
    (conforms-push rate burst (counted taken) (frame_in x) w.place old sorted worst there)

-- frames of which one is named don't conform
pub named-breaks : (rate burst : ℕ) (taken : List Metered) (x : Metered) (frame : ℕ) → Names rate burst taken x frame
    → ¬ Conforms rate burst (counted (taken ++ x ∷ []))
named-breaks rate burst taken x frame named conforms =
    let within = conforms.within named.place (length taken) named.exceeds.within
    (omega (arith, length-map (taken ++ x ∷ []) frame_in, length_push taken x)) in
    absurd (not_over _ _ within named.exceeds.over)
  where
    not_over : (n k : ℕ) → n ≤ k → pos 0 <ℤ (pos n -ℤ pos k) → ⊥
    not_over n k h over = omega (arith, ints)
