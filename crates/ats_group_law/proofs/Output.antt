use Rattle.std.proofs.Common.{◌≡◌, ℕ, ◌≤◌, Bool, true, false, cond, List, [], ◌∷◌, ◌++◌, All, refl, sym, ap, ◌∙◌, inl}
use Rattle.std.proofs.Common.{inr, append_assoc, append-nil, eq-eqb, ne_eqb, arith}
use Rattle.std.specs.Prelude.{◌≢◌, ◌==◌, fold}
use Rattle.std.specs.List.Sorted.{IsNonDecreasingBy}
use Rattle.std.proofs.lemmas.Bool.{cases_eq}
use Rattle.std.proofs.lemmas.List.Elements.{All-push}
use Rattle.std.proofs.lemmas.List.Sums.{fold-append}
use Rattle.ats_num.specs.declared.time.Ps.{Ps}
use Rattle.ats_num.specs.Wire.{bits_of}
use Rattle.ats_bucket.specs.Conforming.{Frame}
use Rattle.ats_streams.specs.declared.traffic.Declared.{Declared}
use Rattle.ats_group.specs.declared.verdict.Verdict.{Verdict}
use Rattle.ats_group.specs.declared.verdict.Verdict.TheVariants.{Eligible, Late, Size}
use Rattle.ats_group.specs.Group.{Offer}
use Rattle.ats_streams.specs.Traffic.{IsRuled}
use Rattle.ats_group_law.specs.Accepted.{let_through, accepted, accepted_of}
use Rattle.ats_group_law.specs.Full.{FullState, full_first, full_judged, full_state_by, full_next, full_verdicts}
use Rattle.ats_group_law.specs.Full.{full_state_after}
use Rattle.ats_group_law.proofs.AcceptedParts.{own_through, accepted_of-cons}
use Rattle.ats_group_law.proofs.Order.{order-push}
use Rattle.ats_group_law.proofs.Tracked.{Tracks, tracks-none, tracks-later, tracks-push}
use Rattle.ats_group_law.proofs.VerdictParts.{eligible-time, eligible-after_group}

-- a group's state knows what it accepted of a member
abbrev pub Knows : (ℕ → Declared) → ℕ → FullState → List Frame → Type 0
Knows declared member state frames =
    Tracks (declared member).rate (declared member).burst_bits state.time (state.full member) frames

-- a frame of the member itself
own_eligible : (declared : ℕ → Declared) (residence_ns : ℕ) (state : FullState) (frames : List Frame)
    (offer : Offer) (e : Ps) → IsRuled (declared offer.member) → Knows declared offer.member state frames
    → full_judged declared residence_ns state offer ≡ Eligible e → Knows declared offer.member
    (full_state_by declared state offer (Eligible e)) (frames ++ own_through offer.member offer (Eligible e))
own_eligible declared residence_ns state frames offer e r k v =
    let d : Declared = declared offer.member in
    let t = eligible-time declared residence_ns state offer e r v in
    let same : (offer.member == offer.member) ≡ true = eq-eqb offer.member offer.member refl in
    rw same (tracks-push d.rate d.burst_bits state.time (state.full offer.member) offer.arrival (bits_of offer.octets)
    e.0 frames k t.bits t.time)

-- a frame of another member
other_eligible : (declared : ℕ → Declared) (residence_ns : ℕ) (member : ℕ) (state : FullState)
    (frames : List Frame) (offer : Offer) (e : Ps) → member ≢ offer.member → Knows declared member state frames
    → full_judged declared residence_ns state offer ≡ Eligible e → Knows declared member
    (full_state_by declared state offer (Eligible e)) (frames ++ own_through member offer (Eligible e))
other_eligible declared residence_ns member state frames offer e n k v =
    let d : Declared = declared member in
    let here : (member == offer.member) ≡ false = ne_eqb member offer.member n in
    let there : (offer.member == member) ≡ false = ne_eqb offer.member member (λ p. n (sym p)) in
    rw (here, there, append-nil) (tracks-later d.rate d.burst_bits state.time e.0 (state.full member) frames
    (eligible-after_group declared residence_ns state offer e v) k)

nothing : (b : Bool) (frames : List Frame) → frames ++ cond b [] [] ≡ frames
nothing true frames = append-nil frames
nothing false frames = append-nil frames

-- each verdict
knows-by : (declared : ℕ → Declared) (residence_ns : ℕ) (member : ℕ) (state : FullState)
    (frames : List Frame) (offer : Offer) (v : Verdict) → IsRuled (declared member)
    → Knows declared member state frames → full_judged declared residence_ns state offer ≡ v
    → Knows declared member (full_state_by declared state offer v) (frames ++ own_through member offer v)
knows-by declared residence_ns member state frames offer (Eligible e) r k v =
    elim (cases_eq member offer.member) as (λ _. Knows declared member (full_state_by declared state offer (Eligible e))
    (frames ++ own_through member offer (Eligible e))) [
      | inl p ↦ rw p (own_eligible declared residence_ns state frames offer e (rw p at r) (rw p at k) v)
      | inr n ↦ other_eligible declared residence_ns member state frames offer e n k v
    ]
knows-by declared residence_ns member state frames offer (Late e) r k v = rw (nothing (offer.member == member) frames) k
knows-by declared residence_ns member state frames offer Size r k v = rw (nothing (offer.member == member) frames) k

-- all offers
pub knows-after : (declared : ℕ → Declared) (residence_ns : ℕ) (member : ℕ) (state : FullState)
    (frames : List Frame) (offers : List Offer) → IsRuled (declared member) → Knows declared member state frames
    → Knows declared member (full_state_after declared residence_ns state offers)
    (frames ++ accepted_of member offers (full_verdicts declared residence_ns state offers))
knows-after declared residence_ns member state frames [] r k = rw append-nil k
knows-after declared residence_ns member state frames (offer ∷ offers) r k =
    let v : Verdict = full_judged declared residence_ns state offer in
    let later : FullState = full_next declared residence_ns state offer in
    let one = knows-by declared residence_ns member state frames offer v r k refl in
    let all = knows-after declared residence_ns member later (frames ++ own_through member offer v) offers r one in
    let e = accepted_of-cons member offer offers v (full_verdicts declared residence_ns later offers) in
    rw (
      e,
      ← append_assoc frames (own_through member offer v)
          (accepted_of member offers (full_verdicts declared residence_ns later offers)),
    ) all

pub knows-from_first : (declared : ℕ → Declared) (residence_ns : ℕ) (member : ℕ) (offers : List Offer)
    → IsRuled (declared member) → Knows declared member (full_state_after declared residence_ns full_first offers)
    (accepted_of member offers (full_verdicts declared residence_ns full_first offers))
knows-from_first declared residence_ns member offers r =
    knows-after declared residence_ns member full_first [] offers r
    (tracks-none (declared member).rate (declared member).burst_bits 0)

-- what the whole group accepted: in order, and none after the group eligibility time
pub record Ascends (state : FullState) (frames : List Frame) : Type 0 where
  pub in_order : IsNonDecreasingBy (λ (f : Frame). f.at) frames
  pub past : All (λ (f : Frame). f.at ≤ state.time) frames

ascends-by : (declared : ℕ → Declared) (residence_ns : ℕ) (state : FullState) (frames : List Frame)
    (offer : Offer) (v : Verdict) → Ascends state frames → full_judged declared residence_ns state offer ≡ v
    → Ascends (full_state_by declared state offer v) (frames ++ let_through offer v)
ascends-by declared residence_ns state frames offer (Eligible e) a v =
    let f : Frame = record { at = e.0; bits = bits_of offer.octets } in
    let later = eligible-after_group declared residence_ns state offer e v in
    let past : All (λ (f : Frame). f.at ≤ e.0) frames = λ i d h. (let p = a.past i d h in omega arith) in
    record {
      in_order = order-push frames f a.in_order past;
      past = All-push (λ (f : Frame). f.at ≤ e.0) frames f past (omega arith);
    }
ascends-by declared residence_ns state frames offer (Late e) a v = rw append-nil a
ascends-by declared residence_ns state frames offer Size a v = rw append-nil a

pub ascends-after : (declared : ℕ → Declared) (residence_ns : ℕ) (state : FullState) (frames : List Frame)
    (offers : List Offer) → Ascends state frames → Ascends (full_state_after declared residence_ns state offers)
    (frames ++ accepted offers (full_verdicts declared residence_ns state offers))
ascends-after declared residence_ns state frames [] a = rw append-nil a
ascends-after declared residence_ns state frames (offer ∷ offers) a =
    let v : Verdict = full_judged declared residence_ns state offer in
    let later : FullState = full_next declared residence_ns state offer in
    let one = ascends-by declared residence_ns state frames offer v a refl in
    let all = ascends-after declared residence_ns later (frames ++ let_through offer v) offers one in
    rw (← append_assoc frames (let_through offer v)
    (accepted offers (full_verdicts declared residence_ns later offers))) all

-- the group eligibility time is the last of these times
last_by : (declared : ℕ → Declared) (state : FullState) (offer : Offer) (v : Verdict) → fold
    (λ (time : ℕ) (f : Frame). f.at) state.time (let_through offer v) ≡ (full_state_by declared state offer v).time
last_by declared state offer (Eligible e) = refl
last_by declared state offer (Late e) = refl
last_by declared state offer Size = refl

pub last-after : (declared : ℕ → Declared) (residence_ns : ℕ) (state : FullState) (offers : List Offer)
    → (full_state_after declared residence_ns state offers).time ≡ fold (λ (time : ℕ) (f : Frame). f.at) state.time
    (accepted offers (full_verdicts declared residence_ns state offers))
last-after declared residence_ns state [] = refl
last-after declared residence_ns state (offer ∷ offers) =
    let v : Verdict = full_judged declared residence_ns state offer in
    let later : FullState = full_next declared residence_ns state offer in
    let rest : List Frame = accepted offers (full_verdicts declared residence_ns later offers) in
    last-after declared residence_ns later offers
    ∙ sym (fold-append (λ (time : ℕ) (f : Frame). f.at) state.time (let_through offer v) rest
    ∙ ap (λ (n : ℕ). fold (λ (time : ℕ) (f : Frame). f.at) n rest) (last_by declared state offer v))
