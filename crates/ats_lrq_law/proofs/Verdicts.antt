use Rattle.std.proofs.Common.{◌≡◌, ℕ, ◌+◌, ◌*◌, ◌≤◌, Bool, true, false, List, [], ◌∷◌, ap, ◌∙◌, le-leb, arith}
use Rattle.std.specs.Prelude.{IsTrue, nat_le, if◌then◌else◌}
use Rattle.std.specs.List.{AllZip}
use Rattle.ats_num.specs.declared.time.TheConstants.{PS_PER_NS}
use Rattle.ats_num.specs.declared.time.Ps.{Ps}
use Rattle.ats_streams.specs.Traffic.{IsRuled, is_declared_size}
use Rattle.ats_streams.specs.declared.traffic.Declared.{Declared}
use Rattle.ats_group.specs.declared.verdict.Verdict.TheVariants.{Eligible, Late, Size}
use Rattle.ats_group.specs.Group.{Offer, verdict_by}
use Rattle.ats_group.specs.Judge.{OnEligible}
use Rattle.ats_group_law.specs.Regulator.{IsEligibleSized, IsEligibleArrived}
use Rattle.ats_group_law.proofs.Regulator.{by_size}
use Rattle.ats_lrq.specs.Spacing.{IsSpacedFrom, eligibility_time}
use Rattle.ats_lrq.specs.Fold.{State, judged, next, verdicts_of}
use Rattle.ats_lrq.proofs.Distances.{spaced-from, free-by}

-- a time that is told as eligible is the computed one
told_at : (in_time : Bool) (eligible : ℕ) (e : Ps)
    → (if in_time then Eligible (record { 0 = eligible }) else Late (record { 0 = eligible })) ≡ Eligible e
    → e.0 ≡ eligible
told_at true eligible e v = let t : e ≡ record { 0 = eligible } = cc in ap (λ (p : Ps). p.0) t
told_at false eligible e v = absurd (cc)

told : (size : Bool) (latest eligible : ℕ) (e : Ps)
    → (if size then verdict_by latest eligible else Size) ≡ Eligible e → e.0 ≡ eligible
told true latest eligible e v = told_at (nat_le eligible latest) eligible e v
told false latest eligible e v = absurd (cc)

pub eligible-time : (declared : ℕ → Declared) (residence_ns : ℕ) (state : State) (offer : Offer) (e : Ps)
    → judged declared residence_ns state offer ≡ Eligible e
    → e.0 ≡ eligibility_time (declared offer.member).rate (state.last offer.member) state.time offer.arrival
eligible-time declared residence_ns state offer e v =
    told (is_declared_size (declared offer.member) offer.octets) (offer.arrival + PS_PER_NS * residence_ns) _ e v

-- so an eligible frame keeps its distance
pub eligible-spaced : (declared : ℕ → Declared) (residence_ns : ℕ) (state : State) (offer : Offer) (e : Ps)
    → IsRuled (declared offer.member) → judged declared residence_ns state offer ≡ Eligible e
    → IsSpacedFrom (declared offer.member).rate (state.last offer.member) e.0
eligible-spaced declared residence_ns state offer e r v =
    let t = eligible-time declared residence_ns state offer e v in
    spaced-from (declared offer.member).rate (state.last offer.member) e.0 r.rate.positive (omega arith)

-- where a frame of a declared size may be eligible by a time within its residence, it is, no later than that
pub eligible-within : (declared : ℕ → Declared) (residence_ns : ℕ) (state : State) (offer : Offer) (k : ℕ)
    → IsRuled (declared offer.member) → IsTrue (is_declared_size (declared offer.member) offer.octets)
    → offer.arrival ≤ k → state.time ≤ k → IsSpacedFrom (declared offer.member).rate (state.last offer.member) k
    → k ≤ offer.arrival + PS_PER_NS * residence_ns
    → (e : Ps) × (judged declared residence_ns state offer ≡ Eligible e) × (e.0 ≤ k)
eligible-within declared residence_ns state offer k r s a g spaced h =
    let d : Declared = declared offer.member in
    let e : ℕ = eligibility_time d.rate (state.last offer.member) state.time offer.arrival in
    let free = free-by d.rate (state.last offer.member) k r.rate.positive spaced in
    let below : e ≤ k = omega arith in
    let in_time : nat_le e (offer.arrival + PS_PER_NS * residence_ns) ≡ true =
    le-leb e (offer.arrival + PS_PER_NS * residence_ns) (omega arith) in (
      record { 0 = e },
      ap (λ (b : Bool). if b then verdict_by (offer.arrival + PS_PER_NS * residence_ns) e else Size) s
          ∙ ap (λ (b : Bool). if b then Eligible (record { 0 = e }) else Late (record { 0 = e })) in_time,
      below,
    )

-- frames are eligible at declared sizes only
pub sized-from : (declared : ℕ → Declared) (residence_ns : ℕ) (state : State) (offers : List Offer)
    → AllZip (IsEligibleSized declared) offers (verdicts_of declared residence_ns state offers)
sized-from declared residence_ns state [] = tt
sized-from declared residence_ns state (offer ∷ offers) = (
  by_size (is_declared_size (declared offer.member) offer.octets) _,
  sized-from declared residence_ns (next declared residence_ns state offer) offers,
)

-- and only when they have arrived
arrived_in : (in_time : Bool) (eligible arrival : ℕ) → arrival ≤ eligible
    → OnEligible (if in_time then Eligible (record { 0 = eligible }) else Late (record { 0 = eligible }))
    (λ e. arrival ≤ e)
arrived_in true eligible arrival h = h
arrived_in false eligible arrival h = tt

arrived_by : (size : Bool) (latest eligible arrival : ℕ) → arrival ≤ eligible
    → OnEligible (if size then verdict_by latest eligible else Size) (λ e. arrival ≤ e)
arrived_by true latest eligible arrival h = arrived_in (nat_le eligible latest) eligible arrival h
arrived_by false latest eligible arrival h = tt

pub arrived-from : (declared : ℕ → Declared) (residence_ns : ℕ) (state : State) (offers : List Offer)
    → AllZip IsEligibleArrived offers (verdicts_of declared residence_ns state offers)
arrived-from declared residence_ns state [] = tt
arrived-from declared residence_ns state (offer ∷ offers) = (
  arrived_by (is_declared_size (declared offer.member) offer.octets) _ _ offer.arrival (omega arith),
  arrived-from declared residence_ns (next declared residence_ns state offer) offers,
)
