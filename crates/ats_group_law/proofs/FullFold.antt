use Rattle.std.proofs.Common.{◌≡◌, ℕ, List, [], ◌∷◌, refl, ap, ◌∙◌}
use Rattle.ats_streams.specs.declared.traffic.Declared.{Declared}
use Rattle.ats_group.specs.declared.verdict.Verdict.{Verdict}
use Rattle.ats_group.specs.Group.{State, Offer, first, next, verdicts_of, state_after}
use Rattle.ats_group_law.specs.Full.{FullState, full_first, full_judged, full_next, full_verdicts, full_state_after}
use Rattle.ats_group_law.specs.Laws.{FoldIsFullFold}
use Rattle.ats_group_law.proofs.FullStep.{AreOne, first-one, judged-one, next-one}

-- from any two states that stand for each other
pub verdicts-one : (declared : ℕ → Declared) (residence_ns : ℕ) (state : State) (full : FullState) (offers : List Offer)
    → AreOne declared state full
    → verdicts_of declared residence_ns state offers ≡ full_verdicts declared residence_ns full offers
verdicts-one declared residence_ns state full [] one = refl
verdicts-one declared residence_ns state full (offer ∷ offers) one =
    let rest = verdicts-one declared residence_ns (next declared residence_ns state offer)
    (full_next declared residence_ns full offer) offers (next-one declared residence_ns state full offer one) in
    ap (λ (v : Verdict). v ∷ verdicts_of declared residence_ns (next declared residence_ns state offer) offers)
    (judged-one declared residence_ns state full offer one)
    ∙ ap (λ (vs : List Verdict). full_judged declared residence_ns full offer ∷ vs) rest

pub state-one : (declared : ℕ → Declared) (residence_ns : ℕ) (state : State) (full : FullState) (offers : List Offer)
    → AreOne declared state full → AreOne declared (state_after declared residence_ns state offers)
    (full_state_after declared residence_ns full offers)
state-one declared residence_ns state full [] one = one
state-one declared residence_ns state full (offer ∷ offers) one =
    state-one declared residence_ns (next declared residence_ns state offer)
    (full_next declared residence_ns full offer) offers (next-one declared residence_ns state full offer one)

pub full_fold : FoldIsFullFold
full_fold declared residence_ns offers =
    let one = state-one declared residence_ns (first declared) full_first offers (first-one declared) in
    record {
      verdicts = verdicts-one declared residence_ns (first declared) full_first offers (first-one declared);
      time = one.time;
      empties = one.empties;
    }
