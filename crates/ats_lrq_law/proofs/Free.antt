use Rattle.std.proofs.Common.{◌≡◌, ℕ, suc, ◌+◌, ◌-◌, ◌*◌, ◌≤◌, true, false, ◌⊎◌, List, [], ◌∷◌, get_or, All}
use Rattle.std.proofs.Common.{refl, sym, ap, ◌∙◌, inl, inr, eq-eqb, ne_eqb, subst, mul-le-mul_left, arith}
use Rattle.std.specs.Prelude.{◌≢◌, ◌==◌, Any, IsTrue, Option, Some, None}
use Rattle.std.specs.List.{AllZip}
use Rattle.std.specs.List.Sorted.{IsNonDecreasingBy}
use Rattle.std.proofs.lemmas.Bool.{cases_eq}
use Rattle.std.proofs.lemmas.List.Elements.{All-head, All-tail}
use Rattle.ats_num.specs.declared.time.TheConstants.{PS_PER_NS}
use Rattle.ats_num.specs.declared.time.Ps.{Ps}
use Rattle.ats_bucket.specs.Conforming.{Frame}
use Rattle.ats_streams.specs.Traffic.{IsRuled, is_declared_size}
use Rattle.ats_streams.specs.declared.traffic.Declared.{Declared}
use Rattle.ats_group.specs.declared.verdict.Verdict.{Verdict}
use Rattle.ats_group.specs.declared.verdict.Verdict.TheVariants.{Eligible}
use Rattle.ats_group_law.specs.Regulator.{IsDelayedBy}
use Rattle.ats_group_law.specs.Shaping.{Passage, offers_of, frame_before, frames_before, IsEligibleAgain}
use Rattle.ats_lrq.specs.declared.last_frame.LastFrame.{LastFrame}
use Rattle.ats_lrq.specs.Spacing.{IsSpaced, IsSpacedFrom}
use Rattle.ats_lrq.specs.Fold.{State, first, judged, after, next, verdicts_of}
use Rattle.ats_lrq.specs.Judge.{AreSpaced, lrq_judge, spacing_rule}
use Rattle.ats_lrq_law.proofs.Verdicts.{eligible-within}

-- the frames of a member, with one more passage before them
before-own : (p : Passage) (ps : List Passage)
    → frames_before p.offer.member (p ∷ ps) ≡ frame_before p ∷ frames_before p.offer.member ps
before-own p ps =
    let test : (p.offer.member == p.offer.member) ≡ true = eq-eqb p.offer.member p.offer.member refl in
    rw test refl

before-other : (member : ℕ) (p : Passage) (ps : List Passage) → member ≢ p.offer.member
    → frames_before member (p ∷ ps) ≡ frames_before member ps
before-other member p ps n =
    let test : (p.offer.member == member) ≡ false = ne_eqb p.offer.member member (λ q. n (sym q)) in
    rw test refl

-- a member has frames among these, or none
any_of : (member : ℕ) (passages : List Passage)
    → (frames_before member passages ≡ []) ⊎ Any (λ (p : Passage). p.offer.member ≡ member) passages
any_of member [] = inl refl
any_of member (p ∷ ps) =
    elim (cases_eq p.offer.member member) as (λ _. (frames_before member (p ∷ ps) ≡ [])
    ⊎ Any (λ (p : Passage). p.offer.member ≡ member) (p ∷ ps)) [
      | inl e ↦ inr (0, p, omega arith, refl, e)
      | inr n ↦ elim (any_of member ps) as (λ _. (frames_before member (p ∷ ps) ≡ [])
          ⊎ Any (λ (p : Passage). p.offer.member ≡ member) (p ∷ ps)) [
            | inl none ↦ inl (before-other member p ps (λ q. n (sym q)) ∙ none)
            | inr some ↦ inr (suc some.0, some.1, omega (arith, some.2), some.3, some.4)
          ]
    ]

-- those of every member kept their distances
spaced_of : (declared : ℕ → Declared) (residence_ns bound : ℕ) (passages : List Passage)
    → IsDelayedBy spacing_rule declared residence_ns bound passages → (member : ℕ)
    → AreSpaced (declared member).rate (frames_before member passages)
spaced_of declared residence_ns bound passages d member =
    let Goal : ℕ → Type 0 = λ (m : ℕ). AreSpaced (declared m).rate (frames_before m passages) in
    elim (any_of member passages) as (λ _. Goal member) [
      | inl none ↦ rw none tt
      | inr some ↦
          (let there : Goal (get_or passages some.0 some.1).offer.member =
          (d.kept some.0 some.1 some.2).spaced in
          subst Goal (ap (λ (p : Passage). p.offer.member) some.3 ∙ some.4) there)
    ]

-- a member's frames to come kept their distances at the hop before, also from the last accepted one, which was eligible
-- again within the bound
abbrev IsReadyFor : ℕ → ℕ → Option LastFrame → List Frame → Type 0
IsReadyFor rate bound None frames = AreSpaced rate frames
IsReadyFor rate bound (Some last) frames =
    (since : ℕ) × (last.eligible.0 ≤ since + bound) × AreSpaced rate (record { at = since; bits = last.bits } ∷ frames)

-- in numbers: the distance at the hop before is one here
carried : (rate bits since before at bound : ℕ) → before ≤ since + bound → IsSpaced rate bits since at
    → IsSpaced rate bits before (at + bound)
carried rate bits since before at bound h s =
    let later = s.later in
    let given = s.given in
    let longer : at - since ≤ (at + bound) - before = omega arith in
    record { later = omega arith; given = omega (arith, mul-le-mul_left rate longer) }

-- so the next frame may be eligible within the bound
ready-spaced : (rate bound : ℕ) (last : Option LastFrame) (f : Frame) (fs : List Frame)
    → IsReadyFor rate bound last (f ∷ fs) → IsSpacedFrom rate last (f.at + bound)
ready-spaced rate bound None f fs r = tt
ready-spaced rate bound (Some last) f fs r = carried rate last.bits r.0 last.eligible.0 f.at bound r.1 r.2.0

ready-rest : (rate bound : ℕ) (last : Option LastFrame) (f : Frame) (fs : List Frame)
    → IsReadyFor rate bound last (f ∷ fs) → AreSpaced rate (f ∷ fs)
ready-rest rate bound None f fs r = r
ready-rest rate bound (Some last) f fs r = r.2.1

-- before each frame: the group eligibility time is within the bound, and each member is ready
record IsReady (declared : ℕ → Declared) (bound since : ℕ) (state : State) (passages : List Passage) : Type 0 where
  time : state.time ≤ since + bound
  ready : (member : ℕ)
      → IsReadyFor (declared member).rate bound (state.last member) (frames_before member passages)

-- what is asked of the passages otherwise
record Delayed (declared : ℕ → Declared) (residence_ns bound : ℕ) (passages : List Passage) : Type 0 where
  ruled : All (λ (p : Passage). IsRuled (declared p.offer.member)) passages
  sized : All (λ (p : Passage). IsTrue (is_declared_size (declared p.offer.member) p.offer.octets)) passages
  in_order : IsNonDecreasingBy (λ (p : Passage). p.since) passages
  arrives : All (λ (p : Passage). p.offer.arrival ≤ p.since + bound) passages
  may_stay : All (λ (p : Passage). p.since + bound ≤ p.offer.arrival + PS_PER_NS * residence_ns) passages

passages-after : (p : Passage) (ps : List Passage) → IsNonDecreasingBy (λ (p : Passage). p.since) (p ∷ ps)
    → All (λ (q : Passage). p.since ≤ q.since) ps
passages-after p ps o i d h = o 0 (suc i) d (omega arith) (omega arith)

delayed-tail : (declared : ℕ → Declared) (residence_ns bound : ℕ) (p : Passage) (ps : List Passage)
    → Delayed declared residence_ns bound (p ∷ ps) → Delayed declared residence_ns bound ps
delayed-tail declared residence_ns bound p ps d = record {
  ruled = All-tail (λ (p : Passage). IsRuled (declared p.offer.member)) p ps d.ruled;
  sized = All-tail (λ (p : Passage). IsTrue (is_declared_size (declared p.offer.member) p.offer.octets)) p ps d.sized;
  in_order = λ i j e h k. d.in_order (suc i) (suc j) e (omega arith) (omega arith);
  arrives = All-tail (λ (p : Passage). p.offer.arrival ≤ p.since + bound) p ps d.arrives;
  may_stay = All-tail (λ (p : Passage). p.since + bound ≤ p.offer.arrival + PS_PER_NS * residence_ns) p ps d.may_stay;
}

-- the member of the first frame is ready for it
own_ready : (declared : ℕ → Declared) (bound since : ℕ) (state : State) (p : Passage) (ps : List Passage)
    → IsReady declared bound since state (p ∷ ps)
    → IsReadyFor (declared p.offer.member).rate bound (state.last p.offer.member)
    (frame_before p ∷ frames_before p.offer.member ps)
own_ready declared bound since state p ps r = rw (before-own p ps) at (r.ready p.offer.member)

-- the first frame is eligible again
first_again : (declared : ℕ → Declared) (residence_ns bound since : ℕ) (state : State) (p : Passage) (ps : List Passage)
    → since ≤ p.since → IsReady declared bound since state (p ∷ ps) → Delayed declared residence_ns bound (p ∷ ps)
    → IsEligibleAgain bound p (judged declared residence_ns state p.offer)
first_again declared residence_ns bound since state p ps h r d =
    let time = r.time in
    eligible-within declared residence_ns state p.offer (p.since + bound)
    (All-head (λ (p : Passage). IsRuled (declared p.offer.member)) p ps d.ruled)
    (All-head (λ (p : Passage). IsTrue (is_declared_size (declared p.offer.member) p.offer.octets)) p ps d.sized)
    (All-head (λ (p : Passage). p.offer.arrival ≤ p.since + bound) p ps d.arrives)
    (omega arith)
    (ready-spaced (declared p.offer.member).rate bound (state.last p.offer.member) (frame_before p)
    (frames_before p.offer.member ps) (own_ready declared bound since state p ps r))
    (All-head (λ (p : Passage). p.since + bound ≤ p.offer.arrival + PS_PER_NS * residence_ns) p ps d.may_stay)

-- each member is ready after the first frame
member-next : (declared : ℕ → Declared) (bound since : ℕ) (state : State) (p : Passage) (ps : List Passage) (e : Ps)
    → e.0 ≤ p.since + bound → IsReady declared bound since state (p ∷ ps) → (member : ℕ)
    → IsReadyFor (declared member).rate bound ((after state p.offer (Eligible e)).last member) (frames_before member ps)
member-next declared bound since state p ps e k r member =
    let Goal : ℕ → Type 0 = λ (m : ℕ). IsReadyFor (declared m).rate bound
    ((after state p.offer (Eligible e)).last m) (frames_before m ps) in
    elim (cases_eq member p.offer.member) as (λ _. Goal member) [
      | inl same ↦
          (let test : (p.offer.member == p.offer.member) ≡ true = eq-eqb p.offer.member p.offer.member refl in
          let own : Goal p.offer.member =
          rw test (
            p.since,
            k,
            ready-rest (declared p.offer.member).rate bound (state.last p.offer.member)
                (frame_before p) (frames_before p.offer.member ps) (own_ready declared bound since state p ps r),
          ) in
          subst Goal (sym same) own)
      | inr other ↦
          (let test : (member == p.offer.member) ≡ false = ne_eqb member p.offer.member other in
          rw test (rw (before-other member p ps other) at (r.ready member)))
    ]

ready-next : (declared : ℕ → Declared) (residence_ns bound since : ℕ) (state : State) (p : Passage) (ps : List Passage)
    → IsReady declared bound since state (p ∷ ps)
    → IsEligibleAgain bound p (judged declared residence_ns state p.offer)
    → IsReady declared bound p.since (next declared residence_ns state p.offer) ps
ready-next declared residence_ns bound since state p ps r again =
    let Goal : Verdict → Type 0 = λ (v : Verdict). IsReady declared bound p.since (after state p.offer v) ps in
    let ready : Goal (Eligible again.0) = record {
      time = again.2;
      ready = member-next declared bound since state p ps again.0 again.2 r;
    } in
    subst Goal (sym again.1) ready

again-from : (declared : ℕ → Declared) (residence_ns bound since : ℕ) (state : State) (passages : List Passage)
    → All (λ (p : Passage). since ≤ p.since) passages
    → IsReady declared bound since state passages → Delayed declared residence_ns bound passages
    → AllZip (IsEligibleAgain bound) passages (verdicts_of declared residence_ns state (offers_of passages))
again-from declared residence_ns bound since state [] after r d = tt
again-from declared residence_ns bound since state (p ∷ ps) after r d =
    let h = All-head (λ (p : Passage). since ≤ p.since) p ps after in
    let again = first_again declared residence_ns bound since state p ps h r d in (
      again,
      again-from declared residence_ns bound p.since (next declared residence_ns state p.offer) ps
          (passages-after p ps d.in_order) (ready-next declared residence_ns bound since state p ps r again)
          (delayed-tail declared residence_ns bound p ps d),
    )

-- what kept its distances at the hop before is eligible again within the bound
pub spacing-free : (declared : ℕ → Declared) (residence_ns bound : ℕ) (passages : List Passage)
    → IsDelayedBy spacing_rule declared residence_ns bound passages
    → AllZip (IsEligibleAgain bound) passages (lrq_judge declared residence_ns (offers_of passages))
spacing-free declared residence_ns bound passages d =
    let all : Delayed declared residence_ns bound passages = record {
      ruled = d.ruled;
      sized = d.sized;
      in_order = d.in_order;
      arrives = d.arrives;
      may_stay = d.may_stay;
    } in
    let ready : IsReady declared bound 0 first passages = record {
      time = omega arith;
      ready = spaced_of declared residence_ns bound passages d;
    } in
    again-from declared residence_ns bound 0 first passages (λ i e h. omega arith) ready all
