use Rattle.std.specs.Prelude.{◌≡◌, ℕ, List, [], ◌∷◌, true, false}
use Rattle.ats_streams.specs.declared.traffic.Declared.{Declared}
use Rattle.ats_group.specs.Group.{Offer, State, after, first, judged, next, verdict_on, verdicts_of}
use Rattle.ats_group.specs.Judge.{ats_judge}
use Rattle.ats_group.specs.declared.verdict.Verdict.TheVariants.{Eligible, Late, Size}
use Rattle.ats_num.specs.declared.time.Ps.{Ps}
use Rattle.ats_lrq.specs.Fold as lrq
use Rattle.ats_lrq.specs.Judge.{lrq_judge}
use Rattle.ats_shape.specs.Text.{is_eligible, is_late, is_size}

-- a group judges frames one behind the other, from its first state on: each by what its own member keeps and declares,
-- within the residence that is declared, 0 too; and what it keeps then is what follows from that verdict
pub record GroupsArePlain : Type 0 where
  pub all : (declared : ℕ → Declared) (residence : ℕ) (offers : List Offer) → ats_judge declared residence offers
      ≡ verdicts_of declared residence (first declared) offers
  pub none : (declared : ℕ → Declared) (residence : ℕ) (state : State)
      → verdicts_of declared residence state [] ≡ []
  pub more : (declared : ℕ → Declared) (residence : ℕ) (state : State) (offer : Offer) (offers : List Offer)
      → verdicts_of declared residence state (offer ∷ offers)
      ≡ judged declared residence state offer ∷ verdicts_of declared residence (next declared residence state offer)
      offers
  pub each : (declared : ℕ → Declared) (residence : ℕ) (state : State) (offer : Offer)
      → judged declared residence state offer
      ≡ verdict_on (declared offer.member) residence state.time (state.empty offer.member) offer.arrival offer.octets
  pub next : (declared : ℕ → Declared) (residence : ℕ) (state : State) (offer : Offer)
      → next declared residence state offer ≡ after declared state offer (judged declared residence state offer)

-- so does the other regulator
pub record RegulatorsArePlain : Type 0 where
  pub all : (declared : ℕ → Declared) (residence : ℕ) (offers : List Offer) → lrq_judge declared residence offers
      ≡ lrq.verdicts_of declared residence lrq.first offers
  pub none : (declared : ℕ → Declared) (residence : ℕ) (state : lrq.State)
      → lrq.verdicts_of declared residence state [] ≡ []
  pub more : (declared : ℕ → Declared) (residence : ℕ) (state : lrq.State) (offer : Offer) (offers : List Offer)
      → lrq.verdicts_of declared residence state (offer ∷ offers)
      ≡ lrq.judged declared residence state offer
      ∷ lrq.verdicts_of declared residence (lrq.next declared residence state offer) offers
  pub each : (declared : ℕ → Declared) (residence : ℕ) (state : lrq.State) (offer : Offer)
      → lrq.judged declared residence state offer
      ≡ lrq.verdict_on (declared offer.member) residence state.time (state.last offer.member) offer.arrival
      offer.octets
  pub next : (declared : ℕ → Declared) (residence : ℕ) (state : lrq.State) (offer : Offer)
      → lrq.next declared residence state offer
      ≡ lrq.after state offer (lrq.judged declared residence state offer)

-- a verdict counts as what it is, whatever its time
pub record CountsArePlain : Type 0 where
  pub eligible : (e : Ps) → is_eligible (Eligible e) ≡ true
  pub no_late : (e : Ps) → is_eligible (Late e) ≡ false
  pub no_size : is_eligible Size ≡ false
  pub late : (e : Ps) → is_late (Late e) ≡ true
  pub not_late : (e : Ps) → is_late (Eligible e) ≡ false
  pub size_is_none : is_late Size ≡ false
  pub size : is_size Size ≡ true
  pub not_size : (e : Ps) → is_size (Eligible e) ≡ false
  pub late_is_none : (e : Ps) → is_size (Late e) ≡ false

pub record JudgesArePlain : Type 0 where
  pub groups : GroupsArePlain
  pub regulators : RegulatorsArePlain
  pub counts : CountsArePlain
