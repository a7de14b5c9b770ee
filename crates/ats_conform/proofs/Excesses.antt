use Rattle.std.proofs.Common.{◌≡◌, ℕ, ◌+◌, ◌*◌, ◌<◌, ◌≤◌, List, [], ◌∷◌, ◌++◌, length, subst, inl, inr, arith}
use Rattle.std.specs.Prelude.{pos, ◌-ℤ◌, ◌<ℤ◌, ◌≤ℤ◌}
use Rattle.std.proofs.lemmas.Int.{ints}
use Rattle.std.proofs.lemmas.Bool.{cases_lt}
use Rattle.std.proofs.lemmas.List.{length_push}
use Rattle.std.specs.List.Sorted.{IsNonDecreasing}
use Rattle.ats_num.specs.declared.time.TheConstants.{PS_PER_SECOND}
use Rattle.ats_bucket.specs.Conforming.{Frame, Conforms, times_of, bits_between, time_between}
use Rattle.ats_conform.specs.Metering.{ExceedsFrom}
use Rattle.ats_conform.specs.MeterInside.{time_at, bits_before, IsWorstPlace}
use Rattle.ats_conform.proofs.Places.{time-old, bits-old, bits-split, time-split}
use Rattle.ats_conform.proofs.WorstPlaces.{given}

-- a frame's excess from two starts on, with plain numbers
no_more : (m rate saved tk ti t dk di wk wi sk si s : ℕ) → tk + dk ≡ t → ti + di ≡ t → wk + sk ≡ s → wi + si ≡ s
    → rate * tk + m * si ≤ rate * ti + m * sk
    → (pos (m * wk) -ℤ pos (rate * dk + saved)) ≤ℤ (pos (m * wi) -ℤ pos (rate * di + saved))
no_more m rate saved tk ti t dk di wk wi sk si s a b c d h =
    let tks = given rate tk dk t a in
    let tis = given rate ti di t b in
    let wks = given m wk sk s c in
    let wis = given m wi si s d in
    omega (arith, ints)

less : (m rate saved tk ti t dk di wk wi sk si s : ℕ) → tk + dk ≡ t → ti + di ≡ t → wk + sk ≡ s → wi + si ≡ s
    → rate * tk + m * si < rate * ti + m * sk
    → (pos (m * wk) -ℤ pos (rate * dk + saved)) <ℤ (pos (m * wi) -ℤ pos (rate * di + saved))
less m rate saved tk ti t dk di wk wi sk si s a b c d h =
    let tks = given rate tk dk t a in
    let tis = given rate ti di t b in
    let wks = given m wk sk s c in
    let wis = given m wi si s d in
    omega (arith, ints)

above : (n k : ℕ) → n < k → pos 0 <ℤ (pos k -ℤ pos n)
above n k h = omega (arith, ints)

within_too : (m rate saved tk ti t dk di wk wi sk si s : ℕ) → tk + dk ≡ t → ti + di ≡ t → wk + sk ≡ s → wi + si ≡ s
    → rate * tk + m * si ≤ rate * ti + m * sk → m * wi ≤ rate * di + saved → m * wk ≤ rate * dk + saved
within_too m rate saved tk ti t dk di wk wi sk si s a b c d h fits =
    let tks = given rate tk dk t a in
    let tis = given rate ti di t b in
    let wks = given m wk sk s c in
    let wis = given m wi si s d in
    omega arith

-- where the last frame exceeds the bucket from the worst start on, it does so by most
pub exceeds : (rate burst : ℕ) (frames : List Frame) (last i : ℕ) → last + 1 ≡ length frames
    → IsNonDecreasing (times_of frames) → IsWorstPlace rate frames i
    → rate * time_between frames i last + PS_PER_SECOND * burst < PS_PER_SECOND * bits_between frames i last
    → ExceedsFrom rate burst frames last i
exceeds rate burst frames last i end sorted worst over =
    let here : i ≤ last = omega (arith, worst.within) in
    let time = time-split frames i last sorted here (omega arith) in
    let bits = bits-split frames i last here in
    record {
      within = here;
      over = above _ _ over;
      greatest = λ k h. no_more PS_PER_SECOND rate (PS_PER_SECOND * burst) (time_at frames k) (time_at frames i)
          (time_at frames last) (time_between frames k last) (time_between frames i last) (bits_between frames k last)
          (bits_between frames i last) (bits_before frames k) (bits_before frames i) (bits_before frames (last + 1))
          (time-split frames k last sorted h (omega arith)) time (bits-split frames k last h) bits
          (worst.greatest k (omega arith));
      earliest = λ k h. less PS_PER_SECOND rate (PS_PER_SECOND * burst) (time_at frames k) (time_at frames i)
          (time_at frames last) (time_between frames k last) (time_between frames i last) (bits_between frames k last)
          (bits_between frames i last) (bits_before frames k) (bits_before frames i) (bits_before frames (last + 1))
          (time-split frames k last sorted (omega arith) (omega arith)) time
          (bits-split frames k last (omega arith)) bits (worst.earliest k h);
    }

-- frames conform with one more where they do without it, and it does not exceed the bucket from the worst start on
pub conforms-push : (rate burst : ℕ) (frames : List Frame) (x : Frame) (i : ℕ) → Conforms rate burst frames
    → IsNonDecreasing (times_of (frames ++ x ∷ [])) → IsWorstPlace rate (frames ++ x ∷ []) i
    → PS_PER_SECOND * bits_between (frames ++ x ∷ []) i (length frames)
    ≤ rate * time_between (frames ++ x ∷ []) i (length frames) + PS_PER_SECOND * burst
    → Conforms rate burst (frames ++ x ∷ [])
conforms-push rate burst frames x i old sorted worst fits =
    let all : List Frame = frames ++ x ∷ [] in
    let last : ℕ = length frames in
    let size : length all ≡ last + 1 = length_push frames x in
    let here : i ≤ last = omega (arith, worst.within) in
    record {
      in_order = sorted;
      within = λ k j h below. (elim (cases_lt j last)
          as (λ _. PS_PER_SECOND * bits_between all k j ≤ rate * time_between all k j + PS_PER_SECOND * burst) [
            | inl before ↦ (
                let split = bits-split all k j h in
                let was = bits-split frames k j h in
                let bk = bits-old frames x k (omega arith) in
                let bj = bits-old frames x (j + 1) (omega arith) in
                let bits : bits_between all k j ≡ bits_between frames k j = omega arith in
                let tk = time-old frames x k (omega arith) in
                let tj = time-old frames x j before in
                let time : time_between all k j ≡ time_between frames k j = rw (tk, tj) in
                rw (bits, time) (old.within k j h before))
            | inr end ↦ (
                let is : last ≡ j = omega arith in
                let h2 : k ≤ last = omega arith in
                subst (λ (n : ℕ). PS_PER_SECOND * bits_between all k n
                ≤ rate * time_between all k n + PS_PER_SECOND * burst) is
                (within_too PS_PER_SECOND rate (PS_PER_SECOND * burst) (time_at all k) (time_at all i)
                (time_at all last) (time_between all k last) (time_between all i last) (bits_between all k last)
                (bits_between all i last) (bits_before all k) (bits_before all i) (bits_before all (last + 1))
                (time-split all k last sorted h2 (omega arith)) (time-split all i last sorted here (omega arith))
                (bits-split all k last h2) (bits-split all i last here) (worst.greatest k (omega arith)) fits))
          ]);
    }
