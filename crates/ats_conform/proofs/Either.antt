use Rattle.std.proofs.Common.{◌≡◌, ℕ, zero, suc, ◌+◌, ◌<◌, ◌≤◌, true, List, [], ◌∷◌, ◌++◌, length, map, take}
use Rattle.std.proofs.Common.{true≢false, sum_by, Option, Some, None, refl, sym, ◌∙◌, subst, inl, inr, arith, add-one}
use Rattle.std.specs.Prelude.{◌⊎◌}
use Rattle.std.specs.List.Sorted.{IsNonDecreasing}
use Rattle.std.proofs.lemmas.Bool.{cases_Bool, cases_eq, cases_lt}
use Rattle.ats_num.specs.Wire.{bits_of}
use Rattle.ats_streams.specs.Traffic.{is_declared_size}
use Rattle.ats_network.specs.Network.{DeclaredNetwork}
use Rattle.ats_trace.specs.Eligibility.{declared_by}
use Rattle.ats_trace.specs.Releases.{AreReleases}
use Rattle.ats_trace.specs.declared.journey.Release.{Release}
use Rattle.ats_conform.specs.declared.broken.Broken.{Broken}
use Rattle.ats_conform.specs.declared.broken.Broken.TheVariants.{Size, Bucket}
use Rattle.ats_conform.specs.declared.meter.Metered.{Metered}
use Rattle.ats_conform.specs.declared.start.Start.{Start}
use Rattle.ats_conform.specs.Broken.{Breaks}
use Rattle.ats_conform.specs.Laws.{KeepOrBreak}
use Rattle.ats_conform.specs.MeterInside.{IsWorst, IsWorstOf}
use Rattle.ats_conform.specs.Releases.{AllKeepBuckets, no_release, release_at, metered_at, metered_from}
use Rattle.ats_conform.specs.Start.{is_over, worse_of}
use Rattle.ats_conform.specs.Steps.{KeepSoFar}
use Rattle.ats_conform.proofs.Found.{named, conform-on}
use Rattle.ats_conform.proofs.Judged.{all_kept, none_so_far, size-broken, bucket-broken, keep-more}
use Rattle.ats_conform.proofs.Lists.{metered-mine, metered-other, none_later}
use Rattle.ats_conform.proofs.Taken.{worst-push}

-- the frames of a sender among the first releases, and their bits
abbrev taken_of : ℕ → ℕ → List Release → List Metered
taken_of i n releases = metered_from i 0 (take n releases)

abbrev sent_of : ℕ → ℕ → List Release → ℕ
sent_of i n releases = sum_by (λ (m : Metered). m.bits) (taken_of i n releases)

-- the start of the next of them
abbrev next_of : ℕ → ℕ → List Release → Start
next_of i n releases =
    record { frame = n; at = record { 0 = (release_at releases n).at.0 }; before = sent_of i n releases }

-- some start is the worst of them, if there is one of them
abbrev HasWorst : ℕ → ℕ → List Release → ℕ → Type 0
HasWorst rate i releases n = (worst : Option Start) × IsWorstOf rate (taken_of i n releases) worst

has-next : (rate i n : ℕ) (releases : List Release) → IsNonDecreasing (map (λ (r : Release). r.at.0) releases)
    → n < length releases → HasWorst rate i releases n → HasWorst rate i releases (n + 1)
has-next rate i n releases sorted h (worst, is) =
    let r : Release = release_at releases n in
    elim (cases_eq r.sender i) as (λ _. HasWorst rate i releases (n + 1)) [
      | inl mine ↦ (
        Some (worse_of rate worst (next_of i n releases)),
        subst (λ (l : List Metered). IsWorst rate l (worse_of rate worst (next_of i n releases)))
            (sym (metered-mine i n releases h mine))
            (worst-push rate (taken_of i n releases) worst n r.at.0 (bits_of r.octets) (sent_of i n releases) is
            (none_later i n releases sorted h) refl),
      )
      | inr other ↦ (
        worst,
        subst (λ (l : List Metered). IsWorstOf rate l worst) (sym (metered-other i n releases h other)) is,
      )
    ]

has-worst : (rate i : ℕ) (releases : List Release) → IsNonDecreasing (map (λ (r : Release). r.at.0) releases)
    → (n : ℕ) → n ≤ length releases → HasWorst rate i releases n
has-worst rate i releases sorted zero h = (None, refl)
has-worst rate i releases sorted (suc n) h =
    subst (HasWorst rate i releases) (add-one n)
    (has-next rate i n releases sorted (omega arith) (has-worst rate i releases sorted n (omega arith)))

-- the first releases keep what is declared, or a release breaks it
abbrev KeepOrBroken : DeclaredNetwork → List Release → ℕ → Type 0
KeepOrBroken network releases n = KeepSoFar network releases n ⊎ ((broken : Broken) × Breaks network releases broken)

-- by whether the next frame of a stream is over its bucket
by_over : (network : DeclaredNetwork) (releases : List Release) (n : ℕ)
    → IsNonDecreasing (map (λ (r : Release). r.at.0) releases) → n < length releases
    → KeepSoFar network releases n
    → (is_declared_size (declared_by network (release_at releases n).sender) (release_at releases n).octets ≡ true)
    → (release_at releases n).sender < length network.streams
    → HasWorst (declared_by network (release_at releases n).sender).rate (release_at releases n).sender releases n
    → KeepOrBroken network releases (n + 1)
by_over network releases n sorted h keep size stream (worst, is) =
    let r : Release = release_at releases n in
    let s : ℕ = r.sender in
    let rate : ℕ = (declared_by network s).rate in
    let burst : ℕ = (declared_by network s).burst_bits in
    let start : Start = worse_of rate worst (next_of s n releases) in
    let order = none_later s n releases sorted h in
    let w : IsWorst rate (taken_of s n releases ++ metered_at n r ∷ []) start =
    worst-push rate (taken_of s n releases) worst n r.at.0 (bits_of r.octets) (sent_of s n releases) is order refl in
    elim (cases_Bool (is_over rate burst start r.at.0 (sent_of s n releases + bits_of r.octets)))
    as (λ _. KeepOrBroken network releases (n + 1)) [
      | inl over ↦ inr (
        Bucket start.frame n,
        bucket-broken network releases n s start.frame h keep refl stream size
            (named rate burst (taken_of s n releases) (metered_at n r) (sent_of s n releases) start
            (keep.streams s stream) order refl w over),
      )
      | inr fits ↦ inl (keep-more network releases n h keep size
          (λ own. conform-on rate burst (taken_of s n releases) (metered_at n r) (sent_of s n releases) start
          (keep.streams s stream) order refl w fits))
    ]

-- one release more
either-next : (network : DeclaredNetwork) (releases : List Release) (n : ℕ) → AreReleases network releases
    → n < length releases → KeepSoFar network releases n → KeepOrBroken network releases (n + 1)
either-next network releases n are h keep =
    let r : Release = release_at releases n in
    elim (cases_Bool (is_declared_size (declared_by network r.sender) r.octets))
    as (λ _. KeepOrBroken network releases (n + 1)) [
      | inl size ↦ elim (cases_lt r.sender (length network.streams))
          as (λ _. KeepOrBroken network releases (n + 1)) [
            | inl stream ↦ by_over network releases n are.in_order h keep size stream
                (has-worst (declared_by network r.sender).rate r.sender releases are.in_order n (omega arith))
            | inr flow ↦ inl (keep-more network releases n h keep size (λ stream. absurd (omega arith)))
          ]
      | inr other ↦ inr (
        Size n,
        size-broken network releases n h keep (are.each n no_release h).sender
            (λ sized. true≢false (sym sized ∙ other)),
      )
    ]

either : (network : DeclaredNetwork) (releases : List Release) → AreReleases network releases
    → (n : ℕ) → n ≤ length releases → KeepOrBroken network releases n
either network releases are zero h = inl (none_so_far network releases)
either network releases are (suc n) h =
    subst (KeepOrBroken network releases) (add-one n)
    (elim (either network releases are n (omega arith)) as (λ _. KeepOrBroken network releases (n + 1)) [
      | inl keep ↦ either-next network releases n are (omega arith) keep
      | inr broken ↦ inr broken
    ])

pub keep-or_break : KeepOrBreak
keep-or_break network releases are =
    elim (either network releases are (length releases) (omega arith))
    as (λ _. AllKeepBuckets network releases ⊎ ((broken : Broken) × Breaks network releases broken)) [
      | inl keep ↦ inl (all_kept network releases (length releases) (omega arith) keep)
      | inr broken ↦ inr broken
    ]
