use Rattle.std.proofs.Common.{◌≡◌, ℕ, ◌+◌, ◌*◌, ◌≤◌, Bool, true, false, List, [], ◌∷◌, ◌++◌, map, All}
use Rattle.std.proofs.Common.{refl, sym, ap, subst, ◌∙◌, inr, arith, mul-le-mul_right}
use Rattle.std.specs.Prelude.{◌==◌, nat_le, if◌then◌else◌}
use Rattle.std.proofs.lemmas.Bool.{eqb-true}
use Rattle.std.proofs.lemmas.List.Elements.{All-head, All-tail}
use Rattle.ats_num.specs.declared.time.TheConstants.{PS_PER_SECOND, PS_PER_NS}
use Rattle.ats_num.specs.Wire.{bits_of}
use Rattle.ats_streams.specs.Traffic.{IsRuled, is_declared_size}
use Rattle.ats_streams.specs.declared.traffic.Declared.{Declared}
use Rattle.ats_group.specs.declared.verdict.Verdict.{Verdict}
use Rattle.ats_group.specs.declared.verdict.Verdict.TheVariants.{Eligible, Late, Size}
use Rattle.ats_group.specs.Group.{Offer, verdict_by}
use Rattle.ats_group.specs.Judge.{OnEligible, ats_judge}
use Rattle.ats_group_law.specs.Full.{full_eligibility, full_after, FullState, full_first}
use Rattle.ats_group_law.specs.Full.{full_judged, full_state_by, full_next, full_verdicts, full_state_after}
use Rattle.ats_group_law.proofs.FullStep.{full_eligibility-least}
use Rattle.ats_group_law.proofs.FullFold.{full_fold}
use Rattle.ats_legal_law.specs.Later.{later_verdict}
use Rattle.ats_legal_law.specs.Rest.{FillsBy}
use Rattle.ats_legal_law.proofs.LaterFold.{IsLater, later_offer, covered, verdicts_later}

-- After its frames and a rest a group is as it was at first.

-- the time from which the next frame is eligible holds its bits, and no more than the burst
abbrev Holds : Declared → ℕ → ℕ → ℕ → Type 0
Holds d full bits e =
    (full + PS_PER_SECOND * bits ≤ e * d.rate + PS_PER_SECOND * d.burst_bits) × (bits ≤ d.burst_bits)

by_latest : (P : ℕ → Type 0) (e : ℕ) (in_time : Bool) → P e
    → OnEligible (if in_time then Eligible (record { 0 = e }) else Late (record { 0 = e })) P
by_latest P e true holds = holds
by_latest P e false holds = tt

by_size : (P : ℕ → Type 0) (sized : Bool) (v : Verdict) → (sized ≡ true → OnEligible v P)
    → OnEligible (if sized then v else Size) P
by_size P true v holds = holds refl
by_size P false v holds = tt

judged_holds : (declared : ℕ → Declared) (residence_ns : ℕ) (state : FullState) (offer : Offer)
    → IsRuled (declared offer.member)
    → OnEligible (full_judged declared residence_ns state offer)
    (Holds (declared offer.member) (state.full offer.member) (bits_of offer.octets))
judged_holds declared residence_ns state offer ruled =
    let d : Declared = declared offer.member in
    let bits : ℕ = bits_of offer.octets in
    let P : ℕ → Type 0 = Holds d (state.full offer.member) bits in
    let e : ℕ = full_eligibility d.rate d.burst_bits (state.full offer.member) state.time offer.arrival bits in
    let latest : ℕ = offer.arrival + PS_PER_NS * residence_ns in
    let is = full_eligibility-least d.rate d.burst_bits (state.full offer.member) state.time offer.arrival bits
    (omega (arith, ruled.rate.positive)) in
    by_size P (is_declared_size d offer.octets) (verdict_by latest e)
    (λ sized. by_latest P e (nat_le e latest) (is.bucket, covered d offer.octets ruled sized))

-- what a group keeps is within what a rest fills
record IsFilled (declared : ℕ → Declared) (over by : ℕ) (state : FullState) : Type 0 where
  time : state.time ≤ over
  full : (member : ℕ) → state.full member ≤ by * (declared member).rate

-- a member that keeps the rules, and whose bucket a rest fills
abbrev pub IsRested : (ℕ → Declared) → ℕ → ℕ → Offer → Type 0
IsRested declared over by o = IsRuled (declared o.member) × FillsBy over by (declared o.member)

chosen_le : (chosen : Bool) (a c n : ℕ) → (chosen ≡ true → a ≤ n) → c ≤ n → (if chosen then a else c) ≤ n
chosen_le true a c n first second = first refl
chosen_le false a c n first second = second

filled_after : (d : Declared) (over by full bits e : ℕ) → FillsBy over by d → e ≤ over → full ≤ by * d.rate
    → Holds d full bits e → full_after d.rate full e bits ≤ by * d.rate
filled_after d over by full bits e fills in_time before holds =
    let last : e * d.rate ≤ over * d.rate = mul-le-mul_right d.rate in_time in
    omega (arith, fills, holds.0, holds.1, last)

state_filled : (declared : ℕ → Declared) (over by : ℕ) (state : FullState) (offer : Offer) (verdict : Verdict)
    → IsRested declared over by offer → OnEligible verdict (λ e. e ≤ over)
    → OnEligible verdict (Holds (declared offer.member) (state.full offer.member) (bits_of offer.octets))
    → IsFilled declared over by state → IsFilled declared over by (full_state_by declared state offer verdict)
state_filled declared over by state offer (Eligible e) rested in_time holds filled =
    let bits : ℕ = bits_of offer.octets in
    let Within : ℕ → Type 0 = λ (member : ℕ).
    full_after (declared member).rate (state.full member) e.0 bits ≤ by * (declared member).rate in
    let own : Within offer.member =
    filled_after (declared offer.member) over by (state.full offer.member) bits e.0 rested.1 in_time
    (filled.full offer.member) holds in
    record {
      time = in_time;
      full = λ member.
          chosen_le (member == offer.member) (full_after (declared member).rate (state.full member) e.0 bits)
          (state.full member) (by * (declared member).rate)
          (λ same. subst Within (sym (eqb-true member offer.member same)) own)
          (filled.full member);
    }
state_filled declared over by state offer (Late e) rested in_time holds filled = filled
state_filled declared over by state offer Size rested in_time holds filled = filled

all_filled : (declared : ℕ → Declared) (residence_ns over by : ℕ) (state : FullState) (offers : List Offer)
    → All (IsRested declared over by) offers
    → All (λ (v : Verdict). OnEligible v (λ e. e ≤ over)) (full_verdicts declared residence_ns state offers)
    → IsFilled declared over by state
    → IsFilled declared over by (full_state_after declared residence_ns state offers)
all_filled declared residence_ns over by state [] rested in_time filled = filled
all_filled declared residence_ns over by state (offer ∷ offers) rested in_time filled =
    let InTime : Verdict → Type 0 = λ (v : Verdict). OnEligible v (λ e. e ≤ over) in
    let verdict : Verdict = full_judged declared residence_ns state offer in
    let next : FullState = full_next declared residence_ns state offer in
    let rest : List Verdict = full_verdicts declared residence_ns next offers in
    let here : IsRested declared over by offer = All-head (IsRested declared over by) offer offers rested in
    all_filled declared residence_ns over by next offers (All-tail (IsRested declared over by) offer offers rested)
    (All-tail InTime verdict rest in_time)
    (state_filled declared over by state offer verdict here (All-head InTime verdict rest in_time)
    (judged_holds declared residence_ns state offer here.0) filled)

verdicts-append : (declared : ℕ → Declared) (residence_ns : ℕ) (state : FullState) (first second : List Offer)
    → full_verdicts declared residence_ns state (first ++ second)
    ≡ full_verdicts declared residence_ns state first
    ++ full_verdicts declared residence_ns (full_state_after declared residence_ns state first) second
verdicts-append declared residence_ns state [] second = refl
verdicts-append declared residence_ns state (offer ∷ first) second =
    ap (λ (vs : List Verdict). full_judged declared residence_ns state offer ∷ vs)
    (verdicts-append declared residence_ns (full_next declared residence_ns state offer) first second)

-- the verdicts on frames, and on others that come after a rest
pub judged_in_turn : (declared : ℕ → Declared) (residence_ns over by : ℕ) (first second : List Offer) → over ≤ by
    → All (IsRested declared over by) first → All (λ (o : Offer). IsRuled (declared o.member)) second
    → All (λ (v : Verdict). OnEligible v (λ e. e ≤ over)) (ats_judge declared residence_ns first)
    → ats_judge declared residence_ns (first ++ map (later_offer by) second)
    ≡ ats_judge declared residence_ns first ++ map (later_verdict by) (ats_judge declared residence_ns second)
judged_in_turn declared residence_ns over by first second after rested ruled in_time =
    let InTime : Verdict → Type 0 = λ (v : Verdict). OnEligible v (λ e. e ≤ over) in
    let moved : List Offer = map (later_offer by) second in
    let whole = (full_fold declared residence_ns (first ++ moved)).verdicts in
    let one = (full_fold declared residence_ns first).verdicts in
    let two = (full_fold declared residence_ns second).verdicts in
    let state : FullState = full_state_after declared residence_ns full_first first in
    let filled : IsFilled declared over by state =
    all_filled declared residence_ns over by full_first first rested (subst (All InTime) one in_time)
    (record { time = omega arith; full = λ member. omega arith }) in
    let later : IsLater declared by full_first state = record {
      time = inr (refl, (let le = filled.time in omega arith));
      full = λ member. inr (refl, filled.full member);
    } in
    let rest = verdicts_later declared residence_ns by full_first state second ruled later in
    whole ∙ verdicts-append declared residence_ns full_first first moved
    ∙ ap (λ (vs : List Verdict). full_verdicts declared residence_ns full_first first ++ vs) rest
    ∙ ap (λ (vs : List Verdict). vs ++ map (later_verdict by) (full_verdicts declared residence_ns full_first second))
    (sym one)
    ∙ ap (λ (vs : List Verdict). ats_judge declared residence_ns first ++ map (later_verdict by) vs) (sym two)
