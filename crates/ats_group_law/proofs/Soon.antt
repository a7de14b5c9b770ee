use Rattle.std.proofs.Common.{◌≡◌, ◌≢◌, ℕ, ◌+◌, ◌*◌, ◌≤◌, max, true, false, List, [], ◌∷◌, All, refl, sym, subst, ◌∙◌}
use Rattle.std.proofs.Common.{inl, inr, eq-eqb, ne_eqb, leb-true, mul-le-mul_left, mul-le-mul_right, arith}
use Rattle.std.specs.Prelude.{nat_le, ◌==◌}
use Rattle.std.proofs.lemmas.Bool.{and_parts, cases_eq}
use Rattle.std.proofs.lemmas.List.Elements.{All-nil, All-cons, All-head, All-tail}
use Rattle.ats_num.specs.declared.time.Ps.{Ps}
use Rattle.ats_num.specs.declared.time.TheConstants.{PS_PER_SECOND, PS_PER_NS}
use Rattle.ats_num.specs.declared.wire.TheConstants.{MAX_WIRE_BITS}
use Rattle.ats_num.specs.Division.{ceiling}
use Rattle.ats_num.specs.Wire.{bits_of}
use Rattle.ats_num.proofs.Ceiling.{ceiling-is}
use Rattle.ats_streams.specs.declared.traffic.Declared.{Declared}
use Rattle.ats_group.specs.declared.verdict.Verdict.{Verdict}
use Rattle.ats_group.specs.declared.verdict.Verdict.TheVariants.{Eligible, Late, Size}
use Rattle.ats_group.specs.Group.{Offer}
use Rattle.ats_streams.specs.Traffic.{IsRuled, is_declared_size}
use Rattle.ats_group.specs.Judge.{ats_judge}
use Rattle.ats_group_law.specs.Full.{full_eligibility, FullState, full_first, full_judged, full_state_by, full_next}
use Rattle.ats_group_law.specs.Full.{full_verdicts, full_state_after}
use Rattle.ats_group_law.specs.Laws.{LateTimeIsSoon}
use Rattle.ats_group_law.proofs.FullFold.{full_fold}
use Rattle.ats_group_law.proofs.OutputLaws.{next_verdict-full}
use Rattle.ats_group_law.proofs.VerdictParts.{eligible-time, eligible-after_group, late_by, late-time}

-- How soon a bucket is full again after the group eligibility time, whatever was offered.

-- the bucket is full no later than the burst takes after the group eligibility time, so it was never empty after that
abbrev IsFullSoon : (ℕ → Declared) → ℕ → FullState → Type 0
IsFullSoon declared member state =
    state.full member ≤ state.time * (declared member).rate + PS_PER_SECOND * (declared member).burst_bits

-- a frame of the member itself takes no more than was there
own-soon : (declared : ℕ → Declared) (residence_ns : ℕ) (state : FullState) (offer : Offer) (e : Ps)
    → IsRuled (declared offer.member) → full_judged declared residence_ns state offer ≡ Eligible e
    → IsFullSoon declared offer.member (full_state_by declared state offer (Eligible e))
own-soon declared residence_ns state offer e r v =
    let t = eligible-time declared residence_ns state offer e r v in
    let same : (offer.member == offer.member) ≡ true = eq-eqb offer.member offer.member refl in
    let there = t.time.bucket in
    let fits = t.bits in
    rw same (omega arith)

-- one of another member only moves the group eligibility time on
other-soon : (declared : ℕ → Declared) (residence_ns : ℕ) (member : ℕ) (state : FullState) (offer : Offer) (e : Ps)
    → member ≢ offer.member → IsFullSoon declared member state
    → full_judged declared residence_ns state offer ≡ Eligible e
    → IsFullSoon declared member (full_state_by declared state offer (Eligible e))
other-soon declared residence_ns member state offer e n soon v =
    let here : (member == offer.member) ≡ false = ne_eqb member offer.member n in
    let later = mul-le-mul_right (declared member).rate (eligible-after_group declared residence_ns state offer e v) in
    rw here (omega arith)

soon-by : (declared : ℕ → Declared) (residence_ns : ℕ) (member : ℕ) (state : FullState) (offer : Offer) (v : Verdict)
    → IsRuled (declared member) → IsFullSoon declared member state → full_judged declared residence_ns state offer ≡ v
    → IsFullSoon declared member (full_state_by declared state offer v)
soon-by declared residence_ns member state offer (Eligible e) r soon v =
    elim (cases_eq member offer.member)
    as (λ _. IsFullSoon declared member (full_state_by declared state offer (Eligible e))) [
      | inl p ↦ rw p (own-soon declared residence_ns state offer e (rw p at r) v)
      | inr n ↦ other-soon declared residence_ns member state offer e n soon v
    ]
soon-by declared residence_ns member state offer (Late e) r soon v = soon
soon-by declared residence_ns member state offer Size r soon v = soon

soon-after : (declared : ℕ → Declared) (residence_ns : ℕ) (member : ℕ) (state : FullState) (offers : List Offer)
    → IsRuled (declared member) → IsFullSoon declared member state
    → IsFullSoon declared member (full_state_after declared residence_ns state offers)
soon-after declared residence_ns member state [] r soon = soon
soon-after declared residence_ns member state (offer ∷ offers) r soon =
    soon-after declared residence_ns member (full_next declared residence_ns state offer) offers r
    (soon-by declared residence_ns member state offer (full_judged declared residence_ns state offer) r soon refl)

-- so a frame's bits are there when the rate has given them
there-by : (rate burst full group arrival bits : ℕ) → 1 ≤ rate → full ≤ group * rate + PS_PER_SECOND * burst
    → full + PS_PER_SECOND * bits
    ≤ max arrival (group + ceiling (PS_PER_SECOND * bits) rate) * rate + PS_PER_SECOND * burst
there-by rate burst full group arrival bits positive soon =
    let q : ℕ = ceiling (PS_PER_SECOND * bits) rate in
    let given : PS_PER_SECOND * bits ≤ q * rate = (ceiling-is (PS_PER_SECOND * bits) rate positive).reaches in
    let k : ℕ = max arrival (group + q) in
    let past : group + q ≤ k = omega arith in
    let more : (group + q) * rate ≤ k * rate = mul-le-mul_right rate past in
    omega arith

pub late_time_soon : LateTimeIsSoon
late_time_soon declared residence_ns offers offer e r v =
    let d : Declared = declared offer.member in
    let state : FullState = full_state_after declared residence_ns full_first offers in
    let t = late-time declared residence_ns state offer e r (sym (next_verdict-full declared residence_ns offers offer)
    ∙ v) in
    let soon : IsFullSoon declared offer.member state =
    soon-after declared residence_ns offer.member full_first offers r (omega arith) in
    let there = there-by d.rate d.burst_bits (state.full offer.member) state.time offer.arrival (bits_of offer.octets)
    r.rate.positive soon in
    let q : ℕ = ceiling (PS_PER_SECOND * bits_of offer.octets) d.rate in
    rw (full_fold declared residence_ns offers).time
    (t.time.least (max offer.arrival (state.time + q)) (omega arith) (omega arith) there)

-- where a verdict is eligible, or late, it tells a time up to this one
abbrev pub IsEligibleUntil : ℕ → Verdict → Type 0
IsEligibleUntil limit (Eligible e) = e.0 ≤ limit
IsEligibleUntil limit (Late e) = Unit {0}
IsEligibleUntil limit Size = Unit {0}

abbrev pub IsLateUntil : ℕ → Verdict → Type 0
IsLateUntil limit (Eligible e) = Unit {0}
IsLateUntil limit (Late e) = e.0 ≤ limit
IsLateUntil limit Size = Unit {0}

-- at the least rate the longest frame takes so long
abbrev pub most_given : ℕ
most_given = PS_PER_SECOND * MAX_WIRE_BITS

-- so each rate gives a frame's bits in that time
given-within : (d : Declared) (octets : ℕ) → IsRuled d → is_declared_size d octets ≡ true
    → ceiling (PS_PER_SECOND * bits_of octets) d.rate ≤ most_given
given-within d octets r sized =
    let p = and_parts (nat_le d.min_octets octets) (nat_le octets d.max_octets) sized in
    let within = leb-true octets d.max_octets p.1 in
    let most = r.sizes.most in
    let n : ℕ = PS_PER_SECOND * bits_of octets in
    let once : n * 1 ≤ n * d.rate = mul-le-mul_left n r.rate.positive in
    let first : ceiling n d.rate ≤ n = (ceiling-is n d.rate r.rate.positive).least n (omega arith) in
    omega arith

-- a late frame that arrives until this time, where none was accepted after it
late-within : (declared : ℕ → Declared) (residence_ns limit : ℕ) (state : FullState) (offer : Offer) (e : Ps)
    → IsRuled (declared offer.member) → offer.arrival ≤ limit → state.time ≤ limit
    → IsFullSoon declared offer.member state → full_judged declared residence_ns state offer ≡ Late e
    → e.0 ≤ limit + most_given
late-within declared residence_ns limit state offer e r arrived before soon v =
    let d : Declared = declared offer.member in
    let sized = late_by (is_declared_size d offer.octets) (offer.arrival + PS_PER_NS * residence_ns)
    (full_eligibility d.rate d.burst_bits (state.full offer.member) state.time offer.arrival (bits_of offer.octets)) e
    v in
    let given = given-within d offer.octets r sized.sized in
    let t = late-time declared residence_ns state offer e r v in
    let q : ℕ = ceiling (PS_PER_SECOND * bits_of offer.octets) d.rate in
    let there = there-by d.rate d.burst_bits (state.full offer.member) state.time offer.arrival (bits_of offer.octets)
    r.rate.positive soon in
    let least : e.0 ≤ max offer.arrival (state.time + q) =
    t.time.least (max offer.arrival (state.time + q)) (omega arith) (omega arith) there in
    omega arith

-- each verdict, and the group eligibility time after it
one-within : (declared : ℕ → Declared) (residence_ns limit : ℕ) (state : FullState) (offer : Offer) (v : Verdict)
    → IsRuled (declared offer.member) → offer.arrival ≤ limit → state.time ≤ limit
    → IsFullSoon declared offer.member state → IsEligibleUntil limit v
    → full_judged declared residence_ns state offer ≡ v
    → IsLateUntil (limit + most_given) v × ((full_state_by declared state offer v).time ≤ limit)
one-within declared residence_ns limit state offer (Eligible e) r arrived before soon until v = (tt, until)
one-within declared residence_ns limit state offer (Late e) r arrived before soon until v =
    (late-within declared residence_ns limit state offer e r arrived before soon v, before)
one-within declared residence_ns limit state offer Size r arrived before soon until v = (tt, before)

all-within : (declared : ℕ → Declared) (residence_ns limit : ℕ) (state : FullState) (offers : List Offer)
    → All (λ (o : Offer). IsRuled (declared o.member)) offers → All (λ (o : Offer). o.arrival ≤ limit) offers
    → state.time ≤ limit → ((member : ℕ) → IsRuled (declared member) → IsFullSoon declared member state)
    → All (IsEligibleUntil limit) (full_verdicts declared residence_ns state offers)
    → All (IsLateUntil (limit + most_given)) (full_verdicts declared residence_ns state offers)
all-within declared residence_ns limit state [] ruled arrived before soon until =
    All-nil (IsLateUntil (limit + most_given))
all-within declared residence_ns limit state (offer ∷ offers) ruled arrived before soon until =
    let v : Verdict = full_judged declared residence_ns state offer in
    let later : FullState = full_next declared residence_ns state offer in
    let rest : List Verdict = full_verdicts declared residence_ns later offers in
    let rule : IsRuled (declared offer.member) =
    All-head (λ (o : Offer). IsRuled (declared o.member)) offer offers ruled in
    let one = one-within declared residence_ns limit state offer v rule
    (All-head (λ (o : Offer). o.arrival ≤ limit) offer offers arrived) before (soon offer.member rule)
    (All-head (IsEligibleUntil limit) v rest until) refl in
    All-cons (IsLateUntil (limit + most_given)) v rest one.0
    (all-within declared residence_ns limit later offers
    (All-tail (λ (o : Offer). IsRuled (declared o.member)) offer offers ruled)
    (All-tail (λ (o : Offer). o.arrival ≤ limit) offer offers arrived) one.1
    (λ member r. soon-by declared residence_ns member state offer v r (soon member r) refl)
    (All-tail (IsEligibleUntil limit) v rest until))

-- where frames arrive until a time, and none is accepted after it, no late frame is told a time that is later by more
-- than the longest frame takes at the least rate
pub late_times_within : (declared : ℕ → Declared) (residence_ns limit : ℕ) (offers : List Offer)
    → All (λ (o : Offer). IsRuled (declared o.member)) offers → All (λ (o : Offer). o.arrival ≤ limit) offers
    → All (IsEligibleUntil limit) (ats_judge declared residence_ns offers)
    → All (IsLateUntil (limit + most_given)) (ats_judge declared residence_ns offers)
late_times_within declared residence_ns limit offers ruled arrived until =
    let same = (full_fold declared residence_ns offers).verdicts in
    subst (All (IsLateUntil (limit + most_given))) (sym same)
    (all-within declared residence_ns limit full_first offers ruled arrived (omega arith) (λ member r. omega arith)
    (subst (All (IsEligibleUntil limit)) same until))
