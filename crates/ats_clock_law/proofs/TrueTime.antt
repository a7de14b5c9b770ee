use Rattle.std.proofs.Common.{◌≡◌, ℕ, zero, suc, ◌+◌, ◌-◌, ◌*◌, ◌<◌, ◌≤◌, ◌⊎◌, List, [], ◌∷◌, zip, refl, ap, inl, inr}
use Rattle.std.proofs.Common.{mul-le-mul_left, mul-le-mul_right, arith}
use Rattle.std.specs.List.{AllZip}
use Rattle.std.proofs.lemmas.Bool.{cases_lt}
use Rattle.ats_group.specs.declared.verdict.Verdict.{Verdict}
use Rattle.ats_group.specs.declared.verdict.Verdict.TheVariants.{Eligible, Late, Size}
use Rattle.ats_group.specs.Group.{Offer}
use Rattle.ats_clock.specs.declared.clock.TheConstants.{MILLION}
use Rattle.ats_clock.specs.Clock.{DeclaredClock, KeepsClock}
use Rattle.ats_clock_law.specs.TrueTime.{EachTimeIsShown, EligibleIsJustShown, IsTrueEligibility, OrderIsKept}
use Rattle.ats_clock_law.specs.TrueTime.{IsTrueVerdict, TrueEligibilityIs, TrueVerdictsAre, stamped_offers}

-- the first of the times from one on, of which the last shows enough
from : (shows : ℕ → ℕ) (told n start : ℕ) → told ≤ shows (start + n)
    → (eligible : ℕ) × IsTrueEligibility shows start told eligible
from shows told zero start h =
    let same : start + 0 ≡ start = omega arith in
    (start, record { arrived = omega arith; shown = rw same at h; least = λ t g s. g })
from shows told (suc n) start h = elim (cases_lt (shows start) told) [
  | inl less ↦
      (let same : start + suc n ≡ suc start + n = omega arith in
      let rest = from shows told n (suc start) (rw (← same) h) in
      let later = rest.1.arrived in (
        rest.0,
        record {
          arrived = omega arith;
          shown = rest.1.shown;
          least = λ t g s. elim (cases_lt start t) [
            | inl past ↦ rest.1.least t (omega arith) s
            | inr first ↦ absurd (let e : t ≡ start = omega arith in let k = ap shows e in omega arith)
          ];
        },
      ))
  | inr enough ↦ (start, record { arrived = omega arith; shown = enough; least = λ t g s. g })
]

pub true_eligibility : TrueEligibilityIs
true_eligibility shows arrival told t h k =
    let same : t ≡ arrival + (t - arrival) = omega arith in
    from shows told (t - arrival) arrival (rw (← same) k)

reached : (slow told step gained n : ℕ) → 1 ≤ slow → n ≡ MILLION * (told + step)
    → slow * n ≤ MILLION * gained + MILLION * step → told ≤ gained
reached slow told step gained n p e h =
    let m = mul-le-mul_right n p in
    omega arith

pub each_time_is_shown : EachTimeIsShown
each_time_is_shown clock shows arrival told k below =
    let n : ℕ = MILLION * (told + clock.step_ps) in
    let h = k.no_slower arrival (arrival + n) (omega arith) in
    let same : arrival + n - arrival ≡ n = omega arith in
    let g = reached (MILLION - clock.deviation_ppm) told clock.step_ps (shows (arrival + n) - shows arrival)
    (arrival + n - arrival) (omega arith) same h in
    (arrival + n, omega arith, omega arith)

-- each time that is told is one in true time
true_time : (clock : DeclaredClock) (shows : ℕ → ℕ) (arrival told : ℕ) → KeepsClock clock shows
    → clock.deviation_ppm < MILLION → (eligible : ℕ) × IsTrueEligibility shows arrival told eligible
true_time clock shows arrival told k below =
    let t = each_time_is_shown clock shows arrival told k below in
    true_eligibility shows arrival told t.0 t.1 t.2

true_verdict : (clock : DeclaredClock) (shows : ℕ → ℕ) (offer : Offer) (v : Verdict) → KeepsClock clock shows
    → clock.deviation_ppm < MILLION → (w : Verdict) × IsTrueVerdict shows offer v w
true_verdict clock shows offer (Eligible told) k below =
    let e = true_time clock shows offer.arrival told.0 k below in
    (Eligible (record { 0 = e.0 }), (record { 0 = e.0 }, refl, e.1))
true_verdict clock shows offer (Late told) k below =
    let e = true_time clock shows offer.arrival told.0 k below in
    (Late (record { 0 = e.0 }), (record { 0 = e.0 }, refl, e.1))
true_verdict clock shows offer Size k below = (Size, refl)

all_true : (clock : DeclaredClock) (shows : ℕ → ℕ) (judged : List (Offer × Verdict)) → KeepsClock clock shows
    → clock.deviation_ppm < MILLION → (verdicts : List Verdict)
    × AllZip (λ (j : Offer × Verdict) (w : Verdict). IsTrueVerdict shows j.0 j.1 w) judged verdicts
all_true clock shows [] k below = ([], tt)
all_true clock shows (j ∷ judged) k below =
    let first = true_verdict clock shows j.0 j.1 k below in
    let rest = all_true clock shows judged k below in
    (first.0 ∷ rest.0, (first.1, rest.1))

pub true_verdicts : TrueVerdictsAre
true_verdicts clock shows judge declared residence_ns offers k below =
    all_true clock shows (zip offers (judge declared residence_ns (stamped_offers shows offers))) k below

pub just_shown : EligibleIsJustShown
just_shown shows arrival told eligible h e = record {
  on_arrival = λ same. (let k = ap shows same in omega arith);
  later = λ after. elim (cases_lt (shows (eligible - 1)) told) [
    | inl less ↦ less
    | inr enough ↦ absurd (let l = e.least (eligible - 1) (omega arith) enough in omega arith)
  ];
}

pub order_kept : OrderIsKept
order_kept clock shows arrival told eligible other_arrival other_told other k h e o before =
    elim (cases_lt other eligible) [
      | inl after ↦ elim (cases_lt other arrival) [
        | inl early ↦ absurd (
            let m = k.in_order other arrival (omega arith) in
            let s = o.shown in
            omega arith)
        | inr there ↦ (let s = o.shown in e.least other there (omega arith))
      ]
      | inr fine ↦ fine
    ]

-- the clock shows no more than the told time at this time, or less one picosecond before
abbrev pub IsAbout : (ℕ → ℕ) → ℕ → ℕ → Type 0
IsAbout shows told t = (shows t ≤ told) ⊎ (shows (t - 1) < told)

-- so it is at each time up to the true eligibility time
pub about : (clock : DeclaredClock) (shows : ℕ → ℕ) (arrival told eligible t : ℕ) → KeepsClock clock shows
    → shows arrival ≤ told → IsTrueEligibility shows arrival told eligible → t ≤ eligible → IsAbout shows told t
about clock shows arrival told eligible t k h e early = elim (cases_lt arrival t) [
  | inl after ↦ elim (cases_lt (shows (t - 1)) told) as (λ _. IsAbout shows told t) [
    | inl less ↦ inr less
    | inr enough ↦ absurd (let l = e.least (t - 1) (omega arith) enough in omega arith)
  ]
  | inr before ↦ inl (let m = k.in_order t arrival before in omega arith)
]

-- what the told times gain from such a frame to one that is eligible later
on_time : (clock : DeclaredClock) (shows : ℕ → ℕ) (s t told later : ℕ) → KeepsClock clock shows → s ≤ t
    → shows s ≤ told → later ≤ shows t → MILLION * (later - told)
    ≤ (MILLION + clock.deviation_ppm) * (t - s) + (MILLION * clock.step_ps + clock.deviation_ppm)
on_time clock shows s t told later k h b a =
    let gained = k.no_faster s t h in
    omega arith

just_before : (clock : DeclaredClock) (shows : ℕ → ℕ) (s t told later : ℕ) → KeepsClock clock shows → s ≤ t
    → shows (s - 1) < told → later ≤ shows t → MILLION * (later - told)
    ≤ (MILLION + clock.deviation_ppm) * (t - s) + (MILLION * clock.step_ps + clock.deviation_ppm)
just_before clock shows s t told later k h b a =
    let gained = k.no_faster (s - 1) t (omega arith) in
    let longer : t - (s - 1) ≤ t - s + 1 = omega arith in
    let more = mul-le-mul_left (MILLION + clock.deviation_ppm) longer in
    omega arith

pub told_gain : (clock : DeclaredClock) (shows : ℕ → ℕ) (s t told later : ℕ) → KeepsClock clock shows → s ≤ t
    → IsAbout shows told s → later ≤ shows t → MILLION * (later - told)
    ≤ (MILLION + clock.deviation_ppm) * (t - s) + (MILLION * clock.step_ps + clock.deviation_ppm)
told_gain clock shows s t told later k h (inl b) a = on_time clock shows s t told later k h b a
told_gain clock shows s t told later k h (inr b) a = just_before clock shows s t told later k h b a
