use Rattle.std.proofs.Common.{◌≡◌, ℕ, ◌+◌, ◌-◌, ◌*◌, ◌<◌, ◌≤◌, List, [], ◌∷◌, ◌++◌, length, sum_by, subst, ap, inl, inr}
use Rattle.std.proofs.Common.{arith}
use Rattle.std.proofs.lemmas.Bool.{cases_lt}
use Rattle.std.proofs.lemmas.List.{length_push}
use Rattle.ats_num.specs.declared.time.TheConstants.{PS_PER_SECOND}
use Rattle.ats_bucket.specs.Conforming.{Frame}
use Rattle.ats_conform.specs.MeterInside.{time_at, bits_before, IsNoWorse, IsBetter, IsWorstPlace}
use Rattle.ats_conform.proofs.Places.{time-old, time-new, bits-old, bits-all, bits-most}

-- what is given in a part of a time
pub given : (rate from more to : ℕ) → from + more ≡ to → rate * from + rate * more ≡ rate * to
given rate from more to e = omega (arith, ap (λ (n : ℕ). rate * n) e)

-- two places of a list stand to each other as they did before one more frame came
no_worse-old : (rate : ℕ) (frames : List Frame) (x : Frame) (k i : ℕ) → k < length frames → i < length frames
    → IsNoWorse rate frames k i → IsNoWorse rate (frames ++ x ∷ []) k i
no_worse-old rate frames x k i hk hi h =
    rw (
      time-old frames x k hk,
      time-old frames x i hi,
      bits-old frames x k (omega arith),
      bits-old frames x i
          (omega arith),
    )
    h

better-old : (rate : ℕ) (frames : List Frame) (x : Frame) (k i : ℕ) → k < length frames → i < length frames
    → IsBetter rate frames k i → IsBetter rate (frames ++ x ∷ []) k i
better-old rate frames x k i hk hi h =
    rw (
      time-old frames x k hk,
      time-old frames x i hi,
      bits-old frames x k (omega arith),
      bits-old frames x i
          (omega arith),
    )
    h

-- the first frame is the worst start of its own
pub worst-first : (rate : ℕ) (x : Frame) → IsWorstPlace rate (x ∷ []) 0
worst-first rate x = record {
  within = omega arith;
  greatest = λ k h. (
      let zero_is : 0 ≡ k = omega arith in
      subst (λ (n : ℕ). IsNoWorse rate (x ∷ []) n 0) zero_is (omega arith));
  earliest = λ k h. absurd (omega arith);
}

-- one more frame against the worst start so far, with plain numbers
keeps : (m rate time more next before sent total : ℕ) → time + more ≡ next → before + sent ≡ total
    → rate * more ≤ m * sent
    → rate * next + m * before ≤ rate * time + m * total
keeps m rate time more next before sent total t b h =
    let r = given rate time more next t in
    let n = given m before sent total b in
    omega arith

moves : (m rate time more next before sent total : ℕ) → time + more ≡ next → before + sent ≡ total
    → m * sent < rate * more
    → rate * time + m * total < rate * next + m * before
moves m rate time more next before sent total t b h =
    let r = given rate time more next t in
    let n = given m before sent total b in
    omega arith

-- the next frame is no worse a start
pub worst-kept : (rate : ℕ) (frames : List Frame) (x : Frame) (i : ℕ) → IsWorstPlace rate frames i
    → time_at frames i ≤ x.at
    → rate * (x.at - time_at frames i)
    ≤ PS_PER_SECOND * (sum_by (λ (f : Frame). f.bits) frames - bits_before frames i)
    → IsWorstPlace rate (frames ++ x ∷ []) i
worst-kept rate frames x i worst order h = record {
  within = omega (arith, worst.within, length_push frames x);
  greatest = λ k below. (elim (cases_lt k (length frames)) as (λ _. IsNoWorse rate (frames ++ x ∷ []) k i) [
    | inl old ↦ no_worse-old rate frames x k i old worst.within (worst.greatest k old)
    | inr end ↦ (
        let last : length frames ≡ k = omega (arith, length_push frames x) in
        subst (λ (n : ℕ). IsNoWorse rate (frames ++ x ∷ []) n i) last
        (rw (
          time-new frames x,
          time-old frames x i worst.within,
          bits-old frames x (length frames) (omega arith),
          bits-old frames x i (omega (arith, worst.within)),
          bits-all frames,
        )
        (keeps PS_PER_SECOND rate (time_at frames i) (x.at - time_at frames i) x.at (bits_before frames i)
        (sum_by (λ (f : Frame). f.bits) frames - bits_before frames i) (sum_by (λ (f : Frame). f.bits) frames)
        (omega arith) (omega (arith, bits-most frames i)) h)))
  ]);
  earliest = λ k below.
      better-old rate frames x k i (omega (arith, worst.within)) worst.within (worst.earliest k below);
}

-- the next frame is a worse start than the worst so far
worse-than_each : (rate : ℕ) (frames : List Frame) (x : Frame) (i : ℕ) → IsWorstPlace rate frames i
    → time_at frames i ≤ x.at
    → PS_PER_SECOND * (sum_by (λ (f : Frame). f.bits) frames - bits_before frames i)
    < rate * (x.at - time_at frames i)
    → (k : ℕ) → k < length frames → IsBetter rate (frames ++ x ∷ []) k (length frames)
worse-than_each rate frames x i worst order h k below =
    let moved = moves PS_PER_SECOND rate (time_at frames i) (x.at - time_at frames i) x.at (bits_before frames i)
    (sum_by (λ (f : Frame). f.bits) frames - bits_before frames i) (sum_by (λ (f : Frame). f.bits) frames)
    (omega arith) (omega (arith, bits-most frames i)) h in
    let old : IsNoWorse rate frames k i = worst.greatest k below in
    rw (
      time-new frames x,
      time-old frames x k below,
      bits-old frames x (length frames) (omega arith),
      bits-old frames x k (omega arith),
      bits-all frames,
    ) (omega arith)

pub worst-moved : (rate : ℕ) (frames : List Frame) (x : Frame) (i : ℕ) → IsWorstPlace rate frames i
    → time_at frames i ≤ x.at
    → PS_PER_SECOND * (sum_by (λ (f : Frame). f.bits) frames - bits_before frames i)
    < rate * (x.at - time_at frames i)
    → IsWorstPlace rate (frames ++ x ∷ []) (length frames)
worst-moved rate frames x i worst order h = record {
  within = omega (arith, length_push frames x);
  greatest = λ k below. (elim (cases_lt k (length frames))
      as (λ _. IsNoWorse rate (frames ++ x ∷ []) k (length frames)) [
        | inl old ↦ (let less = worse-than_each rate frames x i worst order h k old in omega arith)
        | inr end ↦ (
            let last : length frames ≡ k = omega (arith, length_push frames x) in
            subst (λ (n : ℕ). IsNoWorse rate (frames ++ x ∷ []) n (length frames)) last (omega arith))
      ]);
  earliest = λ k below. worse-than_each rate frames x i worst order h k below;
}
