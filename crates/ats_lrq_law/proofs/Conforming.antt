use Rattle.std.proofs.Common.{◌≡◌, ℕ, ◌+◌, ◌-◌, ◌*◌, ◌<◌, ◌≤◌, List, [], ◌∷◌, All, ap, inl, inr, mul-le-mul_left, arith}
use Rattle.std.proofs.lemmas.Bool.{cases_lt}
use Rattle.std.proofs.lemmas.List.Elements.{All-head, All-tail}
use Rattle.ats_num.specs.declared.time.TheConstants.{PS_PER_SECOND}
use Rattle.ats_bucket.specs.Conforming.{Frame, Conforms}
use Rattle.ats_group_law.specs.Windows.{bits_within}
use Rattle.ats_group_law.proofs.Order.{from_frames}
use Rattle.ats_group_law.proofs.WindowBits.{bits_in-before, bits_in-after, bits_in-le, bits_within-cons}
use Rattle.ats_group_law.proofs.WindowBits.{bits_within-wider}
use Rattle.ats_group_law.proofs.WindowPlaces.{places_from_windows}
use Rattle.ats_lrq.specs.Judge.{AreSpaced}
use Rattle.ats_lrq_law.proofs.Spaced.{spaced-order, spaced-tail}

-- frames that begin after a time have no bits until then
none_until : (rate to : ℕ) (f : Frame) (fs : List Frame) → AreSpaced rate (f ∷ fs) → to < f.at
    → bits_within (f ∷ fs) 0 to ≡ 0
none_until rate to f [] s h =
    let first = bits_in-after 0 to f h in
    omega (arith, bits_within-cons f [] 0 to)
none_until rate to f (g ∷ gs) s h =
    let first = bits_in-after 0 to f h in
    let later = s.0.later in
    let rest = none_until rate to g gs s.1 (omega arith) in
    omega (arith, bits_within-cons f (g ∷ gs) 0 to)

-- in numbers: a frame's bits, and what comes from the next one on
step : (rate bits before after to rest burst : ℕ) → before ≤ after
    → PS_PER_SECOND * bits ≤ rate * (after - before)
    → PS_PER_SECOND * rest + rate * after ≤ rate * to + PS_PER_SECOND * burst
    → PS_PER_SECOND * (bits + rest) + rate * before ≤ rate * to + PS_PER_SECOND * burst
step rate bits before after to rest burst h g r =
    let e : (after - before) + before ≡ after = omega arith in
    let rated = ap (λ (n : ℕ). rate * n) e in
    omega arith

-- from the first frame on the rate gives all bits but those of one frame
bits_until : (rate burst to : ℕ) (f : Frame) (fs : List Frame) → AreSpaced rate (f ∷ fs)
    → All (λ (g : Frame). g.bits ≤ burst) (f ∷ fs) → f.at ≤ to
    → PS_PER_SECOND * bits_within (f ∷ fs) 0 to + rate * f.at ≤ rate * to + PS_PER_SECOND * burst
bits_until rate burst to f [] s b h =
    let most = All-head (λ (g : Frame). g.bits ≤ burst) f [] b in
    let first = bits_in-le 0 to f in
    omega (arith, bits_within-cons f [] 0 to, mul-le-mul_left rate h)
bits_until rate burst to f (g ∷ gs) s b h =
    let most = All-head (λ (g : Frame). g.bits ≤ burst) f (g ∷ gs) b in
    let first = bits_in-le 0 to f in
    let sum = bits_within-cons f (g ∷ gs) 0 to in
    elim (cases_lt to g.at) [
      | inl k ↦
          (let none = none_until rate to g gs s.1 k in
          omega (arith, mul-le-mul_left rate h))
      | inr k ↦
          (let rest = bits_until rate burst to g gs s.1 (All-tail (λ (g : Frame). g.bits ≤ burst) f (g ∷ gs) b) k in
          let all = step rate f.bits f.at g.at to (bits_within (g ∷ gs) 0 to) burst s.0.later s.0.given rest in
          omega arith)
    ]

bits_from : (rate burst from to : ℕ) (frames : List Frame) → AreSpaced rate frames
    → All (λ (g : Frame). g.bits ≤ burst) frames → from ≤ to
    → PS_PER_SECOND * bits_within frames from to ≤ rate * (to - from) + PS_PER_SECOND * burst
bits_from rate burst from to [] s b h = omega arith
bits_from rate burst from to (f ∷ fs) s b h =
    elim (cases_lt f.at from) [
      | inl k ↦
          (let none = bits_in-before from to f k in
          let rest = bits_from rate burst from to fs (spaced-tail rate f fs s)
          (All-tail (λ (g : Frame). g.bits ≤ burst) f fs b) h in
          omega (arith, bits_within-cons f fs from to))
      | inr k ↦ elim (cases_lt to f.at) [
        | inl l ↦
            (let none = none_until rate to f fs s l in
            let wider = bits_within-wider (f ∷ fs) from to 0 to (omega arith) (omega arith) in
            omega arith)
        | inr l ↦
            (let until = bits_until rate burst to f fs s b l in
            let wider = bits_within-wider (f ∷ fs) from to 0 to (omega arith) (omega arith) in
            let e : (to - from) + from ≡ to = omega arith in
            let rated = ap (λ (n : ℕ). rate * n) e in
            omega (arith, mul-le-mul_left rate k))
      ]
    ]

-- frames that keep their distances conform to the rate and the bits of the longest of them
pub spaced-conforms : (rate burst : ℕ) (frames : List Frame) → AreSpaced rate frames
    → All (λ (g : Frame). g.bits ≤ burst) frames → Conforms rate burst frames
spaced-conforms rate burst frames s b =
    places_from_windows rate burst frames (record {
      in_order = from_frames frames (spaced-order rate frames s);
      windows = record { within = λ from to h. bits_from rate burst from to frames s b h };
    })
