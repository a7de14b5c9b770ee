use Rattle.std.proofs.Common.{◌≡◌, ℕ, ◌+◌, ◌<◌, List, [], ◌∷◌, ◌++◌, map, take, sym, ap, ◌∙◌, subst, inl, inr, arith}
use Rattle.std.specs.Prelude.{slice_index}
use Rattle.std.proofs.lemmas.Int.{ints}
use Rattle.std.proofs.lemmas.Bool.{cases_lt}
use Rattle.std.proofs.lemmas.List.{take-take}
use Rattle.ats_bucket.specs.Conforming.{Frame}
use Rattle.ats_network.specs.Network.{DeclaredNetwork}
use Rattle.ats_trace.specs.declared.journey.Release.{Release}
use Rattle.ats_trace.specs.Talker.{IsDeclaredSize}
use Rattle.ats_conform.specs.declared.broken.Broken.TheVariants.{Size, Bucket}
use Rattle.ats_conform.specs.declared.meter.Metered.{Metered}
use Rattle.ats_conform.specs.Broken.{IsFirstBroken, BreaksBucket}
use Rattle.ats_conform.specs.Laws.{BrokenIsOne}
use Rattle.ats_conform.specs.Metering.{ExceedsFrom, Names}
use Rattle.ats_conform.specs.Releases.{AllKeepBuckets, release_at}
use Rattle.ats_conform.proofs.Prefix.{keep-front}

-- of two first broken frames neither is before the other
not-before : (network : DeclaredNetwork) (releases : List Release) (a b : ℕ) → IsFirstBroken network releases a
    → IsFirstBroken network releases b → ¬ (a < b)
not-before network releases a b first second less =
    let Kept : List Release → Type 0 = λ rs. AllKeepBuckets network rs in
    first.broken (subst Kept (take-take (a + 1) b releases (omega arith))
    (keep-front network (take b releases) (a + 1) second.before))

first-one : (network : DeclaredNetwork) (releases : List Release) (a b : ℕ) → IsFirstBroken network releases a
    → IsFirstBroken network releases b → a ≡ b
first-one network releases a b first second =
    elim (cases_lt a b) as (λ _. a ≡ b) [
      | inl less ↦ absurd (not-before network releases a b first second less)
      | inr no_less ↦ elim (cases_lt b a) as (λ _. a ≡ b) [
        | inl more ↦ absurd (not-before network releases b a second first more)
        | inr no_more ↦ omega arith
      ]
    ]

-- a frame exceeds the bucket by most, and by more than before, from one place alone
exceeds-not_before : (rate burst : ℕ) (frames : List Frame) (j i k : ℕ) → ExceedsFrom rate burst frames j i
    → ExceedsFrom rate burst frames j k → ¬ (i < k)
exceeds-not_before rate burst frames j i k one other less =
    let most = one.greatest k other.within in
    let early = other.earliest i less in
    omega (arith, ints)

exceeds-one : (rate burst : ℕ) (frames : List Frame) (j i k : ℕ) → ExceedsFrom rate burst frames j i
    → ExceedsFrom rate burst frames j k → i ≡ k
exceeds-one rate burst frames j i k one other =
    elim (cases_lt i k) as (λ _. i ≡ k) [
      | inl less ↦ absurd (exceeds-not_before rate burst frames j i k one other less)
      | inr no_less ↦ elim (cases_lt k i) as (λ _. i ≡ k) [
        | inl more ↦ absurd (exceeds-not_before rate burst frames j k i other one more)
        | inr no_more ↦ omega arith
      ]
    ]

-- so a meter can name one frame alone
names-one : (rate burst : ℕ) (earlier : List Metered) (next : Metered) (a b : ℕ) → Names rate burst earlier next a
    → Names rate burst earlier next b → a ≡ b
names-one rate burst earlier next a b one other =
    let same = exceeds-one rate burst _ _ one.place other.place one.exceeds other.exceeds in
    sym one.number
    ∙ ap (λ (i : ℕ). slice_index (map (λ (m : Metered). m.frame) (earlier ++ next ∷ [])) i) same ∙ other.number

pub broken-one : BrokenIsOne
broken-one network releases (Size a) (Size b) one other =
    ap (λ (n : ℕ). Size n) (first-one network releases a b one.first other.first)
broken-one network releases (Size a) (Bucket since b) one other =
    let same = first-one network releases a b one.first other.first in
    absurd (one.size (subst (λ (n : ℕ). IsDeclaredSize network (release_at releases n)) (sym same) other.size))
broken-one network releases (Bucket since a) (Size b) one other =
    let same = first-one network releases a b one.first other.first in
    absurd (other.size (subst (λ (n : ℕ). IsDeclaredSize network (release_at releases n)) same one.size))
broken-one network releases (Bucket since a) (Bucket other_since b) one other =
    let same = first-one network releases a b one.first other.first in
    let there : BreaksBucket network releases since b =
    subst (λ (n : ℕ). BreaksBucket network releases since n) same one in
    ap (λ (n : ℕ). Bucket since n) same
    ∙ ap (λ (s : ℕ). Bucket s b) (names-one _ _ _ _ since other_since there.bucket other.bucket)
