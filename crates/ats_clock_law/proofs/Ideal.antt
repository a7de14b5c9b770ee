use Rattle.std.proofs.Common.{◌≡◌, ℕ, ◌+◌, ◌*◌, ◌≤◌, Bool, true, false, List, [], ◌∷◌, map, refl, ap, ◌∙◌, arith}
use Rattle.std.specs.Prelude.{nat_le, zip, if◌then◌else◌}
use Rattle.std.specs.List.{AllZip}
use Rattle.ats_num.specs.declared.time.TheConstants.{PS_PER_NS}
use Rattle.ats_num.specs.Wire.{bits_of}
use Rattle.ats_streams.specs.declared.traffic.Declared.{Declared}
use Rattle.ats_streams.specs.Traffic.{is_declared_size}
use Rattle.ats_group.specs.declared.verdict.Verdict.{Verdict}
use Rattle.ats_group.specs.declared.verdict.Verdict.TheVariants.{Eligible, Late, Size}
use Rattle.ats_group.specs.Group.{Offer, verdict_by}
use Rattle.ats_group.specs.Judge.{ats_judge}
use Rattle.ats_group_law.specs.Full.{FullState, full_eligibility, full_first, full_next, full_verdicts}
use Rattle.ats_group_law.proofs.FullFold.{full_fold}
use Rattle.ats_clock.specs.Clock.{KeepsClock, ideal}
use Rattle.ats_clock_law.specs.TrueTime.{IsTrueEligibility, IsTrueVerdict, stamped, stamped_offers}
use Rattle.ats_clock_law.specs.Ideal.{IdealIsConstantApart, IdealVerdictsAreTrue, later_offer, later_verdict}
use Rattle.ats_clock_law.proofs.Shift.{shift_not_seen}

pub constant_apart : IdealIsConstantApart
constant_apart shows k t =
    let low = k.no_slower 0 t (omega arith) in
    let high = k.no_faster 0 t (omega arith) in
    let order = k.in_order 0 t (omega arith) in
    omega arith

-- so its stamps are later by what it shows at first
pub stamps-later : (shows : ℕ → ℕ) (offers : List Offer) → KeepsClock ideal shows
    → stamped_offers shows offers ≡ map (later_offer (shows 0)) offers
stamps-later shows [] k = refl
stamps-later shows (offer ∷ offers) k =
    let e : shows offer.arrival ≡ offer.arrival + shows 0 =
    (let c = constant_apart shows k offer.arrival in omega arith) in
    let first : stamped shows offer ≡ later_offer (shows 0) offer =
    ap (λ (t : ℕ). let o : Offer = record offer { arrival = t } in o) e in
    ap (λ (o : Offer). o ∷ stamped_offers shows offers) first
    ∙ ap (λ (os : List Offer). later_offer (shows 0) offer ∷ os) (stamps-later shows offers k)

-- no verdict tells a time before the arrival
abbrev pub TellsNoEarlier : Offer → Verdict → Type 0
TellsNoEarlier offer (Eligible e) = offer.arrival ≤ e.0
TellsNoEarlier offer (Late e) = offer.arrival ≤ e.0
TellsNoEarlier offer Size = Unit {0}

told_by : (in_time : Bool) (offer : Offer) (eligible : ℕ) → offer.arrival ≤ eligible → TellsNoEarlier offer
    (if in_time then Eligible (record { 0 = eligible }) else Late (record { 0 = eligible }))
told_by true offer eligible h = h
told_by false offer eligible h = h

told_size : (size : Bool) (offer : Offer) (latest eligible : ℕ) → offer.arrival ≤ eligible
    → TellsNoEarlier offer (if size then verdict_by latest eligible else Size)
told_size true offer latest eligible h = told_by (nat_le eligible latest) offer eligible h
told_size false offer latest eligible h = tt

told_after : (declared : ℕ → Declared) (residence_ns : ℕ) (state : FullState) (offers : List Offer)
    → AllZip TellsNoEarlier offers (full_verdicts declared residence_ns state offers)
told_after declared residence_ns state [] = tt
told_after declared residence_ns state (offer ∷ offers) = (
  told_size (is_declared_size (declared offer.member) offer.octets) offer (offer.arrival + PS_PER_NS * residence_ns)
      (full_eligibility (declared offer.member).rate (declared offer.member).burst_bits (state.full offer.member)
      state.time offer.arrival (bits_of offer.octets)) (omega arith),
  told_after declared residence_ns (full_next declared residence_ns state offer) offers,
)

pub tells_no_earlier : (declared : ℕ → Declared) (residence_ns : ℕ) (offers : List Offer)
    → AllZip TellsNoEarlier offers (ats_judge declared residence_ns offers)
tells_no_earlier declared residence_ns offers =
    let full = (full_fold declared residence_ns offers).verdicts in
    rw full (told_after declared residence_ns full_first offers)

only_eligible : (shows : ℕ → ℕ) (arrival told eligible : ℕ) → KeepsClock ideal shows → arrival ≤ told
    → IsTrueEligibility shows arrival (told + shows 0) eligible → eligible ≡ told
only_eligible shows arrival told eligible k h e =
    let first = constant_apart shows k told in
    let second = constant_apart shows k eligible in
    let shown = e.shown in
    let least = e.least told h (omega arith) in
    omega arith

only_verdict : (shows : ℕ → ℕ) (offer : Offer) (v w : Verdict) → KeepsClock ideal shows → TellsNoEarlier offer v
    → IsTrueVerdict shows offer (later_verdict (shows 0) v) w → w ≡ v
only_verdict shows offer (Eligible told) w k h (e, is, t) =
    is ∙ ap (λ (n : ℕ). Eligible (record { 0 = n })) (only_eligible shows offer.arrival told.0 e.0 k h t)
only_verdict shows offer (Late told) w k h (e, is, t) =
    is ∙ ap (λ (n : ℕ). Late (record { 0 = n })) (only_eligible shows offer.arrival told.0 e.0 k h t)
only_verdict shows offer Size w k h is = is

only_verdicts : (shows : ℕ → ℕ) (offers : List Offer) (told verdicts : List Verdict) → KeepsClock ideal shows
    → AllZip TellsNoEarlier offers told
    → AllZip (λ (judged : Offer × Verdict) (verdict : Verdict). IsTrueVerdict shows judged.0 judged.1 verdict)
    (zip offers (map (later_verdict (shows 0)) told)) verdicts → verdicts ≡ told
only_verdicts shows [] [] [] k h t = refl
only_verdicts shows [] [] (w ∷ ws) k h t = absurd t
only_verdicts shows [] (v ∷ vs) ws k h t = absurd h
only_verdicts shows (o ∷ os) [] ws k h t = absurd h
only_verdicts shows (o ∷ os) (v ∷ vs) [] k h t = absurd t
only_verdicts shows (o ∷ os) (v ∷ vs) (w ∷ ws) k h t =
    let first = only_verdict shows o v w k h.0 t.0 in
    let rest = only_verdicts shows os vs ws k h.1 t.1 in
    cc

pub verdicts_true : IdealVerdictsAreTrue
verdicts_true shows declared residence_ns offers verdicts k r t =
    let told = tells_no_earlier declared residence_ns offers in
    let same : ats_judge declared residence_ns (stamped_offers shows offers)
    ≡ map (later_verdict (shows 0)) (ats_judge declared residence_ns offers) =
    ap (ats_judge declared residence_ns) (stamps-later shows offers k)
    ∙ shift_not_seen declared residence_ns (shows 0) offers r in
    only_verdicts shows offers (ats_judge declared residence_ns offers) verdicts k told (rw same at t)
