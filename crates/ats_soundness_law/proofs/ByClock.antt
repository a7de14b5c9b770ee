-- What a group that goes by a clock makes of the frames that come to it.
use Rattle.std.proofs.Common.{◌≡◌, ℕ, ◌≤◌, Bool, true, false, cond, List, [], ◌∷◌, map, All, sum_by}
use Rattle.std.proofs.Common.{refl, sym, ap, subst, arith}
use Rattle.std.specs.Prelude.{◌==◌, zip}
use Rattle.std.specs.List.{AllZip}
use Rattle.std.proofs.lemmas.List.Elements.{All-nil, All-cons}
use Rattle.std.proofs.lemmas.List.Sums.{sum_by-append, sum_by-cons}
use Rattle.ats_num.specs.Wire.{bits_of}
use Rattle.ats_bucket.specs.Conforming.{Frame}
use Rattle.ats_streams.specs.Traffic.{is_declared_size}
use Rattle.ats_streams.specs.declared.traffic.Declared.{Declared}
use Rattle.ats_group.specs.Group.{Offer}
use Rattle.ats_group.specs.Judge.{OnEligible}
use Rattle.ats_group.specs.declared.verdict.Verdict.{Verdict}
use Rattle.ats_group.specs.declared.verdict.Verdict.TheVariants.{Eligible, Late, Size}
use Rattle.ats_group_law.specs.Accepted.{accepted_of, let_through}
use Rattle.ats_group_law.specs.Regulator.{IsEligibleArrived, IsEligibleSized}
use Rattle.ats_group_law.proofs.AcceptedParts.{accepted_of-cons, own_through}
use Rattle.ats_clock_law.specs.TrueTime.{IsTrueEligibility, IsTrueVerdict, stamped, stamped_offers}
use Rattle.ats_trace.specs.Clocks.{WasTold}
use Rattle.ats_trace.specs.Eligibility.{offer_of}
use Rattle.ats_trace.specs.Projections.{Handed}
use Rattle.ats_soundness_law.proofs.Bits.{through_weight}

-- a clock told this time of a frame that had come before, and the frame is eligible once it shows that time
pub record HasTold (shows : ℕ → ℕ) (at eligible : ℕ) : Type 0 where
  pub came : ℕ
  pub no_later : shows came ≤ at
  pub is : IsTrueEligibility shows came at eligible

-- what is known of a frame that a group judged by a clock, with its verdict by the clock
pub record IsJudgedAs (shows told : ℕ → ℕ) (declared : ℕ → Declared) (h : Handed) (v : Verdict) : Type 0 where
  pub truly : IsTrueVerdict shows (offer_of h) v h.verdict
  pub tells : WasTold told h v
  pub sized : IsEligibleSized declared (stamped shows (offer_of h)) v
  pub arrived : IsEligibleArrived (stamped shows (offer_of h)) v

abbrev IsTruly : (ℕ → ℕ) → Offer × Verdict → Verdict → Type 0
IsTruly shows judged verdict = IsTrueVerdict shows judged.0 judged.1 verdict

pub judged_as : (shows told : ℕ → ℕ) (declared : ℕ → Declared) (arrivals : List Handed) (local : List Verdict)
    → AllZip (λ (judged : Offer × Verdict) (verdict : Verdict). IsTrueVerdict shows judged.0 judged.1 verdict)
    (zip (map offer_of arrivals) local) (map (λ (h : Handed). h.verdict) arrivals)
    → AllZip (WasTold told) arrivals local
    → AllZip (IsEligibleSized declared) (stamped_offers shows (map offer_of arrivals)) local
    → AllZip IsEligibleArrived (stamped_offers shows (map offer_of arrivals)) local
    → AllZip (IsJudgedAs shows told declared) arrivals local
judged_as shows told declared [] [] t w z a = tt
judged_as shows told declared [] (v ∷ local) t w z a = absurd w
judged_as shows told declared (h ∷ hs) [] t w z a = absurd w
judged_as shows told declared (h ∷ hs) (v ∷ local) t w z a = (
  record { truly = t.0; tells = w.0; sized = z.0; arrived = a.0 },
  judged_as shows told declared hs local t.1 w.1 z.1 a.1,
)

-- a frame that is eligible was told its time
abbrev pub TellsTime : (shows told : ℕ → ℕ) → Handed → Type 0
TellsTime shows told h = OnEligible h.verdict (λ e. HasTold shows (told h.crossing.sent.frame) e)

tells_one : (shows told : ℕ → ℕ) (h : Handed) (v w : Verdict) → IsTrueVerdict shows (offer_of h) v w
    → WasTold told h v → IsEligibleArrived (stamped shows (offer_of h)) v
    → OnEligible w (λ e. HasTold shows (told h.crossing.sent.frame) e)
tells_one shows told h (Eligible t) w truly tells arrived =
    subst (λ (u : Verdict). OnEligible u (λ e. HasTold shows (told h.crossing.sent.frame) e)) (sym truly.1)
    (subst (λ (n : ℕ). HasTold shows n truly.0.0) (sym tells)
    (record { came = h.crossing.arrival; no_later = arrived; is = truly.2 }))
tells_one shows told h (Late t) w truly tells arrived =
    subst (λ (u : Verdict). OnEligible u (λ e. HasTold shows (told h.crossing.sent.frame) e)) (sym truly.1) tt
tells_one shows told h Size w truly tells arrived =
    subst (λ (u : Verdict). OnEligible u (λ e. HasTold shows (told h.crossing.sent.frame) e)) (sym truly) tt

pub tells_time : (shows told : ℕ → ℕ) (declared : ℕ → Declared) (arrivals : List Handed) (local : List Verdict)
    → AllZip (IsJudgedAs shows told declared) arrivals local → All (TellsTime shows told) arrivals
tells_time shows told declared [] local each = All-nil (TellsTime shows told)
tells_time shows told declared (h ∷ hs) [] each = absurd each
tells_time shows told declared (h ∷ hs) (v ∷ local) each =
    All-cons (TellsTime shows told) h hs
    (tells_one shows told h v h.verdict each.0.truly each.0.tells each.0.arrived)
    (tells_time shows told declared hs local each.1)

-- and has a declared size
abbrev pub IsSizedAs : (ℕ → Declared) → Handed → Type 0
IsSizedAs declared h =
    OnEligible h.verdict (λ e. is_declared_size (declared h.crossing.sent.sender) h.crossing.octets ≡ true)

sized_one : (shows : ℕ → ℕ) (declared : ℕ → Declared) (h : Handed) (v w : Verdict)
    → IsTrueVerdict shows (offer_of h) v w → IsEligibleSized declared (stamped shows (offer_of h)) v
    → OnEligible w (λ e. is_declared_size (declared h.crossing.sent.sender) h.crossing.octets ≡ true)
sized_one shows declared h (Eligible t) w truly sized =
    subst (λ (u : Verdict). OnEligible u
    (λ e. is_declared_size (declared h.crossing.sent.sender) h.crossing.octets ≡ true)) (sym truly.1) sized
sized_one shows declared h (Late t) w truly sized =
    subst (λ (u : Verdict). OnEligible u
    (λ e. is_declared_size (declared h.crossing.sent.sender) h.crossing.octets ≡ true)) (sym truly.1) tt
sized_one shows declared h Size w truly sized =
    subst (λ (u : Verdict). OnEligible u
    (λ e. is_declared_size (declared h.crossing.sent.sender) h.crossing.octets ≡ true)) (sym truly) tt

pub sized_as : (shows told : ℕ → ℕ) (declared : ℕ → Declared) (arrivals : List Handed) (local : List Verdict)
    → AllZip (IsJudgedAs shows told declared) arrivals local → All (IsSizedAs declared) arrivals
sized_as shows told declared [] local each = All-nil (IsSizedAs declared)
sized_as shows told declared (h ∷ hs) [] each = absurd each
sized_as shows told declared (h ∷ hs) (v ∷ local) each =
    All-cons (IsSizedAs declared) h hs (sized_one shows declared h v h.verdict each.0.truly each.0.sized)
    (sized_as shows told declared hs local each.1)

-- a frame at the time that it was told, in the place of the true one
abbrev pub at_told : (ℕ → ℕ) → (Frame → ℕ) → ℕ → Frame → ℕ
at_told told weight n f = weight (record { at = told n; bits = f.bits })

-- what the group lets through of a member weighs by the told times what it weighs in true time with them
through_one : (shows told : ℕ → ℕ) (weight : Frame → ℕ) (h : Handed) (b : Bool) (v w : Verdict)
    → IsTrueVerdict shows (offer_of h) v w → WasTold told h v
    → sum_by weight (cond b (let_through (stamped shows (offer_of h)) v) [])
    ≡ sum_by (at_told told weight h.crossing.sent.frame) (cond b (let_through (offer_of h) w) [])
through_one shows told weight h false v w truly tells = refl
through_one shows told weight h true (Eligible t) w truly tells =
    let n : ℕ = h.crossing.sent.frame in
    let bits : ℕ = bits_of h.crossing.octets in
    let one : Frame = record { at = t.0; bits = bits } in
    let other : Frame = record { at = truly.0.0; bits = bits } in
    subst (λ (u : Verdict). sum_by weight (one ∷ [])
    ≡ sum_by (at_told told weight n) (let_through (offer_of h) u)) (sym truly.1)
    (omega (
      arith,
      sum_by-cons weight one [],
      sum_by-cons (at_told told weight n) other [],
      ap (λ (at : ℕ). weight (record { at = at; bits = bits })) tells,
    ))
through_one shows told weight h true (Late t) w truly tells =
    subst (λ (u : Verdict). 0 ≡ sum_by (at_told told weight h.crossing.sent.frame) (let_through (offer_of h) u))
    (sym truly.1) refl
through_one shows told weight h true Size w truly tells =
    subst (λ (u : Verdict). 0 ≡ sum_by (at_told told weight h.crossing.sent.frame) (let_through (offer_of h) u))
    (sym truly) refl

pub through_told : (shows told : ℕ → ℕ) (declared : ℕ → Declared) (i : ℕ) (weight : Frame → ℕ)
    (arrivals : List Handed) (local : List Verdict) → AllZip (IsJudgedAs shows told declared) arrivals local
    → sum_by weight (accepted_of i (stamped_offers shows (map offer_of arrivals)) local)
    ≡ sum_by (through_weight i (at_told told weight)) arrivals
through_told shows told declared i weight [] [] each = refl
through_told shows told declared i weight [] (v ∷ local) each = absurd each
through_told shows told declared i weight (h ∷ hs) [] each = absurd each
through_told shows told declared i weight (h ∷ hs) (v ∷ local) each =
    let offers : List Offer = stamped_offers shows (map offer_of hs) in
    let one : Offer = stamped shows (offer_of h) in
    omega (
      arith,
      ap (λ (fs : List Frame). sum_by weight fs) (accepted_of-cons i one offers v local),
      sum_by-append weight (own_through i one v) (accepted_of i offers local),
      through_one shows told weight h (h.crossing.sent.sender == i) v h.verdict each.0.truly each.0.tells,
      through_told shows told declared i weight hs local each.1,
      sum_by-cons (through_weight i (at_told told weight)) h hs,
    )
