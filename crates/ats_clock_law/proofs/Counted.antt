use Rattle.std.proofs.Common.{◌≡◌, ℕ, ◌+◌, ◌-◌, ◌*◌, ◌≤◌, ◌⊎◌, Bool, true, false, List, [], ◌∷◌, cond, sum_by, refl, ap}
use Rattle.std.proofs.Common.{inl, inr, arith}
use Rattle.std.specs.Prelude.{nat_le, filter, All}
use Rattle.std.specs.List.Sorted.{IsNonDecreasingBy}
use Rattle.std.proofs.lemmas.Bool.{and_parts, cases_Bool, leb-true}
use Rattle.std.proofs.lemmas.List.Sums.{sum_by-cons}
use Rattle.std.proofs.lemmas.List.Elements.{All-head, All-tail}
use Rattle.ats_num.specs.declared.time.TheConstants.{PS_PER_SECOND}
use Rattle.ats_bucket.specs.Conforming.{Frame}
use Rattle.ats_group_law.specs.Windows.{bits_within}
use Rattle.ats_group_law.proofs.WindowBits.{bits_in, bits_in-inside, bits_within-cons}
use Rattle.ats_group_law.proofs.WindowPlaces.{windows_from_places}
use Rattle.ats_clock.specs.declared.clock.TheConstants.{MILLION}
use Rattle.ats_clock.specs.Clock.{DeclaredClock, KeepsClock}
use Rattle.ats_clock.specs.Rates.{output_of}
use Rattle.ats_clock_law.specs.TrueTime.{IsTrueEligibility}
use Rattle.ats_clock_law.specs.Counted.{CountedKeepBucket, Told, at_told, bits_counted, is_counted}
use Rattle.ats_clock_law.proofs.Enough.{output_enough}
use Rattle.ats_clock_law.proofs.Pairs.{order-first, order-rest}
use Rattle.ats_clock_law.proofs.Retiming.{order-unframed, window}
use Rattle.ats_clock_law.proofs.TrueTime.{IsAbout, about, told_gain}

abbrev told_of : Told → ℕ
told_of f = f.told

abbrev wire_of : Told → ℕ
wire_of f = f.bits

abbrev frame_of : Told → Frame
frame_of f = record { at = f.told; bits = f.bits }

chosen-more : (b : Bool) (f : Told) (fs : List Told)
    → sum_by (λ (f : Told). f.bits) (cond b (f ∷ fs) fs) ≡ cond b f.bits 0 + sum_by (λ (f : Told). f.bits) fs
chosen-more true f fs = sum_by-cons (λ (f : Told). f.bits) f fs
chosen-more false f fs = omega arith

counted-cons : (f : Told) (fs : List Told) (from last : ℕ) → bits_counted (f ∷ fs) from last
    ≡ cond (is_counted from last f) f.bits 0 + bits_counted fs from last
counted-cons f fs from last = chosen-more (is_counted from last f) f (filter (is_counted from last) fs)

counted-parts : (from last : ℕ) (f : Told) → is_counted from last f ≡ true → (from ≤ f.eligible) × (f.told ≤ last)
counted-parts from last f e =
    let p = and_parts (nat_le from f.eligible) (nat_le f.told last) e in
    (leb-true from f.eligible p.0, leb-true f.told last p.1)

-- one frame that is counted is in the window from a time that it was told no earlier
one_counted : (from last lo : ℕ) (f : Told) → lo ≤ f.told
    → cond (is_counted from last f) f.bits 0 ≤ bits_in lo last (frame_of f)
one_counted from last lo f h = elim (cases_Bool (is_counted from last f)) [
  | inl e ↦
      (let p = counted-parts from last f e in
      let inside = bits_in-inside lo last (frame_of f) h p.1 in
      let all = ap (λ (b : Bool). cond b f.bits 0) e in
      omega arith)
  | inr e ↦ (let none = ap (λ (b : Bool). cond b f.bits 0) e in omega arith)
]

counted-within : (from last lo : ℕ) (frames : List Told) → All (λ (f : Told). lo ≤ f.told) frames
    → bits_counted frames from last ≤ bits_within (at_told frames) lo last
counted-within from last lo [] a = omega arith
counted-within from last lo (f ∷ fs) a =
    let first = one_counted from last lo f (All-head (λ (f : Told). lo ≤ f.told) f fs a) in
    let rest = counted-within from last lo fs (All-tail (λ (f : Told). lo ≤ f.told) f fs a) in
    let counted = counted-cons f fs from last in
    let within = bits_within-cons (frame_of f) (at_told fs) lo last in
    omega arith

-- the time that the first counted frame was told
record First (shows : ℕ → ℕ) (from last : ℕ) (frames : List Told) : Type 0 where
  lo : ℕ
  about : IsAbout shows lo from
  in_time : lo ≤ last
  bits : bits_counted frames from last ≤ bits_within (at_told frames) lo last

abbrev IsKnown : (ℕ → ℕ) → Told → Type 0
IsKnown shows f = (shows f.came ≤ f.told) × IsTrueEligibility shows f.came f.told f.eligible

first_of : (clock : DeclaredClock) (shows : ℕ → ℕ) (from last : ℕ) (frames : List Told) → KeepsClock clock shows
    → All (IsKnown shows) frames → IsNonDecreasingBy told_of frames
    → (bits_counted frames from last ≡ 0) ⊎ First shows from last frames
first_of clock shows from last [] k a o = inl refl
first_of clock shows from last (f ∷ fs) k a o =
    let known = All-head (IsKnown shows) f fs a in
    let counted = counted-cons f fs from last in
    elim (cases_Bool (is_counted from last f)) as (λ _. (bits_counted (f ∷ fs) from last ≡ 0)
    ⊎ First shows from last (f ∷ fs)) [
      | inl e ↦
          (let p = counted-parts from last f e in
          let later = counted-within from last f.told fs (order-first told_of f fs o) in
          let one = one_counted from last f.told f (omega arith) in
          let within = bits_within-cons (frame_of f) (at_told fs) f.told last in
          inr (record {
            lo = f.told;
            about = about clock shows f.came f.told f.eligible from k known.0 known.1 p.0;
            in_time = p.1;
            bits = omega arith;
          }))
      | inr e ↦
          (let none : cond (is_counted from last f) f.bits 0 ≡ 0 = ap (λ (b : Bool). cond b f.bits 0) e in
          elim (first_of clock shows from last fs k (All-tail (IsKnown shows) f fs a) (order-rest told_of f fs o))
          as (λ _. (bits_counted (f ∷ fs) from last ≡ 0) ⊎ First shows from last (f ∷ fs)) [
            | inl nothing ↦ inl (omega arith)
            | inr first ↦
                (let within = bits_within-cons (frame_of f) (at_told fs) first.lo last in
                let bits = first.bits in
                inr (record { lo = first.lo; about = first.about; in_time = first.in_time; bits = omega arith }))
          ])
    ]

fewer : (rate burst bits more time : ℕ) → bits ≤ more → PS_PER_SECOND * more ≤ rate * time + PS_PER_SECOND * burst
    → PS_PER_SECOND * bits ≤ rate * time + PS_PER_SECOND * burst
fewer rate burst bits more time h w = omega arith

pub counted_keep : CountedKeepBucket
counted_keep clock shows c frames from last eligible t h s =
    let known : All (IsKnown shows) frames = λ i d l. (t.told i d l, t.eligible i d l) in
    let order = order-unframed told_of wire_of frames t.conformed.in_order in
    let windows = (windows_from_places c.rate c.burst_bits (at_told frames) t.conformed).windows in
    let enough = output_enough clock c in
    elim (first_of clock shows from last frames t.keeps known order) [
      | inl none ↦ (let e : PS_PER_SECOND * bits_counted frames from last ≡ 0 = omega arith in omega arith)
      | inr first ↦
          window MILLION (MILLION + clock.deviation_ppm) (MILLION * clock.step_ps + clock.deviation_ppm) c.rate
          c.burst_bits (output_of clock c).rate (output_of clock c).burst_bits (bits_counted frames from last)
          (last - first.lo) (eligible - from) enough.positive enough.rate enough.burst
          (told_gain clock shows from eligible first.lo last t.keeps h first.about s)
          (fewer c.rate c.burst_bits (bits_counted frames from last) (bits_within (at_told frames) first.lo last)
          (last - first.lo) first.bits (windows.within first.lo last first.in_time))
    ]
