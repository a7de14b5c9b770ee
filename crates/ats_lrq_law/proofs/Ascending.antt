use Rattle.std.proofs.Common.{◌≡◌, ℕ, ◌≤◌, List, [], ◌∷◌, ◌++◌, All, refl, append_assoc, append-nil, arith}
use Rattle.std.specs.List.Sorted.{IsNonDecreasingBy}
use Rattle.std.proofs.lemmas.List.Elements.{All-push}
use Rattle.ats_num.specs.Wire.{bits_of}
use Rattle.ats_bucket.specs.Conforming.{Frame}
use Rattle.ats_streams.specs.declared.traffic.Declared.{Declared}
use Rattle.ats_group.specs.declared.verdict.Verdict.{Verdict}
use Rattle.ats_group.specs.declared.verdict.Verdict.TheVariants.{Eligible, Late, Size}
use Rattle.ats_group.specs.Group.{Offer}
use Rattle.ats_group_law.specs.Accepted.{let_through, accepted}
use Rattle.ats_group_law.proofs.Order.{from_frames, order-push}
use Rattle.ats_lrq.specs.Fold.{State, first, judged, after, next, verdicts_of, state_after}
use Rattle.ats_lrq.specs.Judge.{lrq_judge}
use Rattle.ats_lrq_law.specs.Laws.{LrqOutputAscends}
use Rattle.ats_lrq_law.proofs.Verdicts.{eligible-time}

-- what the whole group accepted: in order, and none after the group eligibility time
record Ascends (state : State) (frames : List Frame) : Type 0 where
  pub in_order : IsNonDecreasingBy (λ (f : Frame). f.at) frames
  pub past : All (λ (f : Frame). f.at ≤ state.time) frames

-- each verdict
ascends-by : (declared : ℕ → Declared) (residence_ns : ℕ) (state : State) (frames : List Frame) (offer : Offer)
    (v : Verdict) → Ascends state frames → judged declared residence_ns state offer ≡ v
    → Ascends (after state offer v) (frames ++ let_through offer v)
ascends-by declared residence_ns state frames offer (Eligible e) a v =
    let f : Frame = record { at = e.0; bits = bits_of offer.octets } in
    let time = eligible-time declared residence_ns state offer e v in
    let later : state.time ≤ e.0 = omega arith in
    let past : All (λ (f : Frame). f.at ≤ e.0) frames = λ i d h. (let p = a.past i d h in omega arith) in
    record {
      in_order = order-push frames f a.in_order past;
      past = All-push (λ (f : Frame). f.at ≤ e.0) frames f past (omega arith);
    }
ascends-by declared residence_ns state frames offer (Late e) a v = rw append-nil a
ascends-by declared residence_ns state frames offer Size a v = rw append-nil a

-- all offers
ascends-after : (declared : ℕ → Declared) (residence_ns : ℕ) (state : State) (frames : List Frame)
    (offers : List Offer) → Ascends state frames → Ascends (state_after declared residence_ns state offers)
    (frames ++ accepted offers (verdicts_of declared residence_ns state offers))
ascends-after declared residence_ns state frames [] a = rw append-nil a
ascends-after declared residence_ns state frames (offer ∷ offers) a =
    let v : Verdict = judged declared residence_ns state offer in
    let later : State = next declared residence_ns state offer in
    let one = ascends-by declared residence_ns state frames offer v a refl in
    let all = ascends-after declared residence_ns later (frames ++ let_through offer v) offers one in
    rw (← append_assoc frames (let_through offer v) (accepted offers (verdicts_of declared residence_ns later offers)))
    all

ascends-first : Ascends first []
ascends-first = record { in_order = λ i j d h k. absurd (omega arith); past = λ i d h. absurd (omega arith) }

pub output_ascends : LrqOutputAscends
output_ascends declared residence_ns offers =
    from_frames (accepted offers (lrq_judge declared residence_ns offers))
    (ascends-after declared residence_ns first [] offers ascends-first).in_order
