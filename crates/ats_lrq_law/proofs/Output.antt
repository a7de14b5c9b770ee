use Rattle.std.proofs.Common.{◌≡◌, ℕ, ◌≤◌, Bool, true, false, cond, List, [], ◌∷◌, ◌++◌, All, refl, sym, ap, inl, inr}
use Rattle.std.proofs.Common.{eq-eqb, ne_eqb, arith}
use Rattle.std.specs.Prelude.{◌==◌, nat_le, Option, Some, None}
use Rattle.std.specs.List.{AllZip}
use Rattle.std.proofs.lemmas.Bool.{cases_eq, and_parts, leb-true}
use Rattle.std.proofs.lemmas.List.Elements.{All-nil, All-cons, All-append}
use Rattle.ats_num.specs.declared.time.Ps.{Ps}
use Rattle.ats_num.specs.Wire.{bits_of}
use Rattle.ats_bucket.specs.Conforming.{Frame}
use Rattle.ats_streams.specs.Traffic.{IsRuled}
use Rattle.ats_streams.specs.declared.traffic.Declared.{Declared}
use Rattle.ats_group.specs.declared.verdict.Verdict.{Verdict}
use Rattle.ats_group.specs.declared.verdict.Verdict.TheVariants.{Eligible, Late, Size}
use Rattle.ats_group.specs.Group.{Offer}
use Rattle.ats_group_law.specs.Accepted.{let_through, accepted_of}
use Rattle.ats_group_law.specs.Regulator.{IsEligibleSized}
use Rattle.ats_group_law.proofs.AcceptedParts.{own_through, accepted_of-cons}
use Rattle.ats_lrq.specs.declared.last_frame.LastFrame.{LastFrame}
use Rattle.ats_lrq.specs.Spacing.{IsSpacedFrom}
use Rattle.ats_lrq.specs.Fold.{State, first, judged, after, next, verdicts_of}
use Rattle.ats_lrq.specs.Judge.{AreSpaced, KeepsSpacing, lrq_judge}
use Rattle.ats_lrq_law.specs.Laws.{LrqOutputConforms}
use Rattle.ats_lrq_law.proofs.Conforming.{spaced-conforms}
use Rattle.ats_lrq_law.proofs.Verdicts.{eligible-spaced, sized-from}

-- a last accepted frame as a token bucket counts it
abbrev frame_of : LastFrame → Frame
frame_of last = record { at = last.eligible.0; bits = last.bits }

-- frames keep their distances, also from the last accepted one, where there is one
abbrev FollowSpaced : ℕ → Option LastFrame → List Frame → Type 0
FollowSpaced rate None frames = AreSpaced rate frames
FollowSpaced rate (Some last) frames = AreSpaced rate (frame_of last ∷ frames)

follow-none : (rate : ℕ) (last : Option LastFrame) → FollowSpaced rate last []
follow-none rate None = tt
follow-none rate (Some last) = tt

follow-one : (rate : ℕ) (last : Option LastFrame) (f : Frame) (fs : List Frame) → IsSpacedFrom rate last f.at
    → AreSpaced rate (f ∷ fs) → FollowSpaced rate last (f ∷ fs)
follow-one rate None f fs h s = s
follow-one rate (Some last) f fs h s = (h, s)

nothing : (b : Bool) (frames : List Frame) → cond b [] [] ++ frames ≡ frames
nothing true frames = refl
nothing false frames = refl

-- each verdict
follow-by : (declared : ℕ → Declared) (residence_ns member : ℕ) (state : State) (offer : Offer) (v : Verdict)
    (frames : List Frame) → IsRuled (declared member) → judged declared residence_ns state offer ≡ v
    → FollowSpaced (declared member).rate ((after state offer v).last member) frames
    → FollowSpaced (declared member).rate (state.last member) (own_through member offer v ++ frames)
follow-by declared residence_ns member state offer (Eligible e) frames r v f =
    elim (cases_eq member offer.member) as (λ _. FollowSpaced (declared member).rate (state.last member)
    (own_through member offer (Eligible e) ++ frames)) [
      | inl p ↦ rw p (own_follow declared residence_ns state offer e frames (rw p at r) v (rw p at f))
      | inr n ↦
          (let here : (member == offer.member) ≡ false = ne_eqb member offer.member n in
          let there : (offer.member == member) ≡ false = ne_eqb offer.member member (λ q. n (sym q)) in
          rw there (rw here at f))
    ]
  where
    own_follow : (declared : ℕ → Declared) (residence_ns : ℕ) (state : State) (offer : Offer) (e : Ps)
        (frames : List Frame) → IsRuled (declared offer.member) → judged declared residence_ns state offer ≡ Eligible e
        → FollowSpaced (declared offer.member).rate ((after state offer (Eligible e)).last offer.member) frames
        → FollowSpaced (declared offer.member).rate (state.last offer.member)
        (own_through offer.member offer (Eligible e) ++ frames)
    own_follow declared residence_ns state offer e frames r v f =
        let same : (offer.member == offer.member) ≡ true = eq-eqb offer.member offer.member refl in
        rw same (follow-one (declared offer.member).rate (state.last offer.member)
        (record { at = e.0; bits = bits_of offer.octets }) frames
        (eligible-spaced declared residence_ns state offer e r v) (rw same at f))
follow-by declared residence_ns member state offer (Late e) frames r v f =
    rw (nothing (offer.member == member) frames) f
follow-by declared residence_ns member state offer Size frames r v f =
    rw (nothing (offer.member == member) frames) f

-- all offers
follow-from : (declared : ℕ → Declared) (residence_ns member : ℕ) (state : State) (offers : List Offer)
    → IsRuled (declared member) → FollowSpaced (declared member).rate (state.last member)
    (accepted_of member offers (verdicts_of declared residence_ns state offers))
follow-from declared residence_ns member state [] r = follow-none (declared member).rate (state.last member)
follow-from declared residence_ns member state (offer ∷ offers) r =
    let v : Verdict = judged declared residence_ns state offer in
    let later : State = next declared residence_ns state offer in
    let rest : List Verdict = verdicts_of declared residence_ns later offers in
    rw (accepted_of-cons member offer offers v rest)
    (follow-by declared residence_ns member state offer v (accepted_of member offers rest) r refl
    (follow-from declared residence_ns member later offers r))

-- accepted frames have bits
through-bits : (offer : Offer) (v : Verdict) → All (λ (f : Frame). 1 ≤ f.bits) (let_through offer v)
through-bits offer (Eligible e) =
    All-cons (λ (f : Frame). 1 ≤ f.bits) (record { at = e.0; bits = bits_of offer.octets }) [] (omega arith)
    (All-nil (λ (f : Frame). 1 ≤ f.bits))
through-bits offer (Late e) = All-nil (λ (f : Frame). 1 ≤ f.bits)
through-bits offer Size = All-nil (λ (f : Frame). 1 ≤ f.bits)

chosen : {X : Type 0} (P : X → Type 0) (b : Bool) (xs : List X) → All P xs → All P (cond b xs [])
chosen P true xs h = h
chosen P false xs h = All-nil P

accepted-bits : (member : ℕ) (offers : List Offer) (verdicts : List Verdict)
    → All (λ (f : Frame). 1 ≤ f.bits) (accepted_of member offers verdicts)
accepted-bits member [] verdicts = All-nil (λ (f : Frame). 1 ≤ f.bits)
accepted-bits member (offer ∷ offers) [] = All-nil (λ (f : Frame). 1 ≤ f.bits)
accepted-bits member (offer ∷ offers) (v ∷ verdicts) =
    rw (accepted_of-cons member offer offers v verdicts)
    (All-append (λ (f : Frame). 1 ≤ f.bits) (own_through member offer v) (accepted_of member offers verdicts)
    (chosen (λ (f : Frame). 1 ≤ f.bits) (offer.member == member) (let_through offer v) (through-bits offer v))
    (accepted-bits member offers verdicts))

-- what is accepted of a member keeps the rule of spacing
pub output-spaced : (declared : ℕ → Declared) (residence_ns : ℕ) (offers : List Offer) (member : ℕ)
    → IsRuled (declared member)
    → KeepsSpacing (declared member).rate (accepted_of member offers (lrq_judge declared residence_ns offers))
output-spaced declared residence_ns offers member r = record {
  bits = accepted-bits member offers (lrq_judge declared residence_ns offers);
  spaced = follow-from declared residence_ns member first offers r;
}

-- at declared sizes no frame has more bits than the longest
own-within : (declared : ℕ → Declared) (member : ℕ) (offer : Offer) (v : Verdict) → IsEligibleSized declared offer v
    → All (λ (f : Frame). f.bits ≤ bits_of (declared member).max_octets) (own_through member offer v)
own-within declared member offer (Eligible e) s =
    let P : Frame → Type 0 = λ (f : Frame). f.bits ≤ bits_of (declared member).max_octets in
    elim (cases_eq offer.member member) as (λ _. All P (own_through member offer (Eligible e))) [
      | inl p ↦
          (let d : Declared = declared offer.member in
          let within = and_parts (nat_le d.min_octets offer.octets) (nat_le offer.octets d.max_octets) s in
          let most = leb-true offer.octets d.max_octets within.1 in
          let same = ap (λ (i : ℕ). (declared i).max_octets) p in
          chosen P (offer.member == member) (let_through offer (Eligible e))
          (All-cons P (record { at = e.0; bits = bits_of offer.octets }) [] (omega arith) (All-nil P)))
      | inr n ↦ (let test = ne_eqb offer.member member n in rw test (All-nil P))
    ]
own-within declared member offer (Late e) s =
    chosen (λ (f : Frame). f.bits ≤ bits_of (declared member).max_octets) (offer.member == member) []
    (All-nil (λ (f : Frame). f.bits ≤ bits_of (declared member).max_octets))
own-within declared member offer Size s =
    chosen (λ (f : Frame). f.bits ≤ bits_of (declared member).max_octets) (offer.member == member) []
    (All-nil (λ (f : Frame). f.bits ≤ bits_of (declared member).max_octets))

accepted-within : (declared : ℕ → Declared) (member : ℕ) (offers : List Offer) (verdicts : List Verdict)
    → AllZip (IsEligibleSized declared) offers verdicts
    → All (λ (f : Frame). f.bits ≤ bits_of (declared member).max_octets) (accepted_of member offers verdicts)
accepted-within declared member [] verdicts s = All-nil (λ (f : Frame). f.bits ≤ bits_of (declared member).max_octets)
accepted-within declared member (offer ∷ offers) [] s =
    All-nil (λ (f : Frame). f.bits ≤ bits_of (declared member).max_octets)
accepted-within declared member (offer ∷ offers) (v ∷ verdicts) s =
    rw (accepted_of-cons member offer offers v verdicts)
    (All-append (λ (f : Frame). f.bits ≤ bits_of (declared member).max_octets) (own_through member offer v)
    (accepted_of member offers verdicts) (own-within declared member offer v s.0)
    (accepted-within declared member offers verdicts s.1))

-- so what is accepted conforms to the rate and the longest frame
pub output_conforms : LrqOutputConforms
output_conforms declared residence_ns offers member r =
    spaced-conforms (declared member).rate (bits_of (declared member).max_octets)
    (accepted_of member offers (lrq_judge declared residence_ns offers))
    (output-spaced declared residence_ns offers member r).spaced
    (accepted-within declared member offers (lrq_judge declared residence_ns offers)
    (sized-from declared residence_ns first offers))
