use Rattle.std.proofs.Common.{◌≡◌, ℕ, suc, ◌+◌, ◌*◌, ◌≤◌, true, false, ◌⊎◌, List, [], ◌∷◌, get_or, All, refl, sym, ap}
use Rattle.std.proofs.Common.{◌∙◌, inl, inr, eq-eqb, ne_eqb, subst, arith}
use Rattle.std.specs.Prelude.{Any, ◌==◌}
use Rattle.std.specs.List.{AllZip}
use Rattle.std.specs.List.Sorted.{IsNonDecreasingBy}
use Rattle.std.proofs.lemmas.Bool.{cases_eq}
use Rattle.std.proofs.lemmas.List.Elements.{All-head, All-tail}
use Rattle.ats_num.specs.declared.time.TheConstants.{PS_PER_NS}
use Rattle.ats_num.specs.declared.time.Ps.{Ps}
use Rattle.ats_streams.specs.declared.traffic.Declared.{Declared}
use Rattle.ats_group.specs.declared.verdict.Verdict.{Verdict}
use Rattle.ats_group.specs.declared.verdict.Verdict.TheVariants.{Eligible}
use Rattle.ats_streams.specs.Traffic.{IsRuled, is_declared_size}
use Rattle.ats_group_law.specs.Windows.{KeepsWindows}
use Rattle.ats_group_law.specs.Full.{FullState, full_first, full_judged, full_state_by, full_next, full_verdicts}
use Rattle.ats_group_law.specs.Shaping.{Passage, offers_of, frames_before, IsDelayed, IsEligibleAgain, ShapingIsFree}
use Rattle.ats_group_law.proofs.FullFold.{full_fold}
use Rattle.ats_group_law.proofs.VerdictParts.{eligible-within}
use Rattle.ats_group_law.proofs.WindowParts.{KeepsWindows-fewer}
use Rattle.ats_group_law.proofs.ShapingStep.{before-fewer, HasRoom, room-first, room-own, room-other, room-needed}

-- before each frame: the group eligibility time is within the bound, and so is each member's bucket
pub record IsReady (declared : ℕ → Declared) (bound since : ℕ) (state : FullState)
    (passages : List Passage) : Type 0 where
  pub time : state.time ≤ since + bound
  pub room : (member to : ℕ) → since ≤ to → HasRoom (declared member).rate (declared member).burst_bits bound
      (state.full member) (frames_before member passages) to

-- a member has frames among these, or none
pub any_of : (member : ℕ) (passages : List Passage)
    → (frames_before member passages ≡ []) ⊎ Any (λ (p : Passage). p.offer.member ≡ member) passages
any_of member [] = inl refl
any_of member (p ∷ ps) =
    elim (cases_eq p.offer.member member) as (λ _. (frames_before member (p ∷ ps) ≡ [])
    ⊎ Any (λ (p : Passage). p.offer.member ≡ member) (p ∷ ps)) [
      | inl e ↦ inr (0, p, omega arith, refl, e)
      | inr n ↦ elim (any_of member ps) as (λ _. (frames_before member (p ∷ ps) ≡ [])
          ⊎ Any (λ (p : Passage). p.offer.member ≡ member) (p ∷ ps)) [
            | inl none ↦ inl (
                let test : (p.offer.member == member) ≡ false = ne_eqb p.offer.member member n in
                rw test none)
            | inr some ↦ inr (suc some.0, some.1, omega (arith, some.2), some.3, some.4)
          ]
    ]

-- those of every member conformed
windows_of : (declared : ℕ → Declared) (residence_ns bound : ℕ) (passages : List Passage)
    → IsDelayed declared residence_ns bound passages → (member : ℕ)
    → KeepsWindows (declared member).rate (declared member).burst_bits (frames_before member passages)
windows_of declared residence_ns bound passages d member =
    let Goal : ℕ → Type 0 =
    λ (m : ℕ). KeepsWindows (declared m).rate (declared m).burst_bits (frames_before m passages) in
    elim (any_of member passages) as (λ _. Goal member) [
      | inl none ↦ rw none (record { within = λ from to h. omega arith })
      | inr some ↦
          (let there : Goal (get_or passages some.0 some.1).offer.member = d.conformed some.0 some.1 some.2 in
          subst Goal (ap (λ (p : Passage). p.offer.member) some.3 ∙ some.4) there)
    ]

-- the same premises, said of every member
record Delayed (declared : ℕ → Declared) (residence_ns bound : ℕ) (passages : List Passage) : Type 0 where
  ruled : All (λ (p : Passage). IsRuled (declared p.offer.member)) passages
  sized : All (λ (p : Passage). is_declared_size (declared p.offer.member) p.offer.octets ≡ true) passages
  in_order : IsNonDecreasingBy (λ (p : Passage). p.since) passages
  conformed : (member : ℕ)
      → KeepsWindows (declared member).rate (declared member).burst_bits (frames_before member passages)
  arrives : All (λ (p : Passage). p.offer.arrival ≤ p.since + bound) passages
  may_stay : All (λ (p : Passage). p.since + bound ≤ p.offer.arrival + PS_PER_NS * residence_ns) passages

passages-after : (p : Passage) (ps : List Passage) → IsNonDecreasingBy (λ (p : Passage). p.since) (p ∷ ps)
    → All (λ (q : Passage). p.since ≤ q.since) ps
passages-after p ps o i d h = o 0 (suc i) d (omega arith) (omega arith)

-- the frames behind the first
delayed-tail : (declared : ℕ → Declared) (residence_ns bound : ℕ) (p : Passage) (ps : List Passage)
    → Delayed declared residence_ns bound (p ∷ ps) → Delayed declared residence_ns bound ps
delayed-tail declared residence_ns bound p ps d = record {
  ruled = All-tail (λ (p : Passage). IsRuled (declared p.offer.member)) p ps d.ruled;
  sized = All-tail (λ (p : Passage). is_declared_size (declared p.offer.member) p.offer.octets ≡ true) p ps d.sized;
  in_order = λ i j e h k. d.in_order (suc i) (suc j) e (omega arith) (omega arith);
  conformed = λ member. KeepsWindows-fewer (declared member).rate (declared member).burst_bits
      (frames_before member (p ∷ ps)) (frames_before member ps) (before-fewer member p ps) (d.conformed member);
  arrives = All-tail (λ (p : Passage). p.offer.arrival ≤ p.since + bound) p ps d.arrives;
  may_stay = All-tail (λ (p : Passage). p.since + bound ≤ p.offer.arrival + PS_PER_NS * residence_ns) p ps d.may_stay;
}

-- the first frame is eligible again
first_again :
    (declared : ℕ → Declared) (residence_ns bound since : ℕ) (state : FullState) (p : Passage) (ps : List Passage)
    → since ≤ p.since → IsReady declared bound since state (p ∷ ps) → Delayed declared residence_ns bound (p ∷ ps)
    → IsEligibleAgain bound p (full_judged declared residence_ns state p.offer)
first_again declared residence_ns bound since state p ps h r d =
    let c : Declared = declared p.offer.member in
    let time = r.time in
    eligible-within declared residence_ns state p.offer (p.since + bound)
    (All-head (λ (p : Passage). IsRuled (declared p.offer.member)) p ps d.ruled)
    (All-head (λ (p : Passage). is_declared_size (declared p.offer.member) p.offer.octets ≡ true) p ps d.sized)
    (All-head (λ (p : Passage). p.offer.arrival ≤ p.since + bound) p ps d.arrives)
    (omega arith)
    (room-needed c.rate c.burst_bits bound (state.full p.offer.member) p ps (r.room p.offer.member p.since h))
    (All-head (λ (p : Passage). p.since + bound ≤ p.offer.arrival + PS_PER_NS * residence_ns) p ps d.may_stay)

-- one member's room after the first frame
room-next : (declared : ℕ → Declared) (residence_ns bound since : ℕ) (state : FullState)
    (p : Passage) (ps : List Passage) (e : Ps) → since ≤ p.since → e.0 ≤ p.since + bound
    → IsReady declared bound since state (p ∷ ps) → Delayed declared residence_ns bound (p ∷ ps)
    → (member to : ℕ) → p.since ≤ to → HasRoom (declared member).rate (declared member).burst_bits bound
    ((full_state_by declared state p.offer (Eligible e)).full member) (frames_before member ps) to
room-next declared residence_ns bound since state p ps e h k r d member to later =
    let Goal : ℕ → Type 0 = λ (m : ℕ). HasRoom (declared m).rate (declared m).burst_bits bound
    ((full_state_by declared state p.offer (Eligible e)).full m) (frames_before m ps) to in
    elim (cases_eq member p.offer.member) as (λ _. Goal member) [
      | inl same ↦
          (let c : Declared = declared p.offer.member in
          let test : (p.offer.member == p.offer.member) ≡ true = eq-eqb p.offer.member p.offer.member refl in
          let own : Goal p.offer.member =
          rw test (room-own c.rate c.burst_bits bound (state.full p.offer.member) to e.0 p ps later k
          (passages-after p ps d.in_order) (d.conformed p.offer.member) (r.room p.offer.member to (omega arith))) in
          subst Goal (sym same) own)
      | inr other ↦
          (let c : Declared = declared member in
          let test : (member == p.offer.member) ≡ false = ne_eqb member p.offer.member other in
          rw test (room-other c.rate c.burst_bits bound (state.full member) to member p ps
          (r.room member to (omega arith))))
    ]

ready-next :
    (declared : ℕ → Declared) (residence_ns bound since : ℕ) (state : FullState) (p : Passage) (ps : List Passage)
    → since ≤ p.since → IsReady declared bound since state (p ∷ ps) → Delayed declared residence_ns bound (p ∷ ps)
    → IsEligibleAgain bound p (full_judged declared residence_ns state p.offer)
    → IsReady declared bound p.since (full_next declared residence_ns state p.offer) ps
ready-next declared residence_ns bound since state p ps h r d again =
    let Goal : Verdict → Type 0 =
    λ (v : Verdict). IsReady declared bound p.since (full_state_by declared state p.offer v) ps in
    let ready : Goal (Eligible again.0) = record {
      time = again.2;
      room = room-next declared residence_ns bound since state p ps again.0 h again.2 r d;
    } in
    subst Goal (sym again.1) ready

again-from : (declared : ℕ → Declared) (residence_ns bound since : ℕ) (state : FullState) (passages : List Passage)
    → All (λ (p : Passage). since ≤ p.since) passages
    → IsReady declared bound since state passages → Delayed declared residence_ns bound passages
    → AllZip (IsEligibleAgain bound) passages (full_verdicts declared residence_ns state (offers_of passages))
again-from declared residence_ns bound since state [] after r d = tt
again-from declared residence_ns bound since state (p ∷ ps) after r d =
    let h = All-head (λ (p : Passage). since ≤ p.since) p ps after in
    let again = first_again declared residence_ns bound since state p ps h r d in (
      again,
      again-from declared residence_ns bound p.since (full_next declared residence_ns state p.offer) ps
          (passages-after p ps d.in_order) (ready-next declared residence_ns bound since state p ps h r d again)
          (delayed-tail declared residence_ns bound p ps d),
    )

pub shaping_free : ShapingIsFree
shaping_free declared residence_ns bound passages d =
    let windows = windows_of declared residence_ns bound passages d in
    let all : Delayed declared residence_ns bound passages = record {
      ruled = d.ruled;
      sized = d.sized;
      in_order = d.in_order;
      conformed = windows;
      arrives = d.arrives;
      may_stay = d.may_stay;
    } in
    let ready : IsReady declared bound 0 full_first passages = record {
      time = omega arith;
      room = λ member to h. room-first (declared member).rate (declared member).burst_bits bound to
          (frames_before member passages) (windows member);
    } in
    rw ((full_fold declared residence_ns (offers_of passages)).verdicts)
    (again-from declared residence_ns bound 0 full_first passages (λ i e h. omega arith) ready all)
