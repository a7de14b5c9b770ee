use Rattle.std.specs.Prelude.{◌≡◌, ℕ, Bool, IsTrue, List, map, All}
use Rattle.ats_streams.specs.declared.traffic.Declared.{Declared}
use Rattle.ats_group.specs.Group.{Offer, State, first, state_after}
use Rattle.ats_group.specs.Judge.{ats_judge}

-- members are given other numbers, each its own, under which the same is declared
pub record IsRenaming (is_member : ℕ → Bool) (rename : ℕ → ℕ) (declared renamed : ℕ → Declared) : Type 0 where
  pub one_to_one : (a b : ℕ) → IsTrue (is_member a) → IsTrue (is_member b) → rename a ≡ rename b → a ≡ b
  pub same : (member : ℕ) → IsTrue (is_member member) → renamed (rename member) ≡ declared member

-- the offer of a member under its other number
abbrev pub renamed_offer : (ℕ → ℕ) → Offer → Offer
renamed_offer rename offer = record { member = rename offer.member; arrival = offer.arrival; octets = offer.octets }

-- the offers of these members under their other numbers
abbrev pub renamed_offers : (ℕ → ℕ) → List Offer → List Offer
renamed_offers rename offers = map (renamed_offer rename) offers

-- two groups keep the same, of the members under both numbers
pub record KeepsSame (is_member : ℕ → Bool) (rename : ℕ → ℕ) (state other : State) : Type 0 where
  pub time : other.time ≡ state.time
  pub empty : (member : ℕ) → IsTrue (is_member member) → other.empty (rename member) ≡ state.empty member

-- the group gives the same verdicts, and keeps the same
pub record IsSameGroup (is_member : ℕ → Bool) (rename : ℕ → ℕ) (declared renamed : ℕ → Declared) (residence_ns : ℕ)
    (offers : List Offer) : Type 0 where
  pub verdicts : ats_judge renamed residence_ns (renamed_offers rename offers) ≡ ats_judge declared residence_ns offers
  pub state : KeepsSame is_member rename (state_after declared residence_ns (first declared) offers)
      (state_after renamed residence_ns (first renamed) (renamed_offers rename offers))

-- nothing of a group depends on its members' numbers
abbrev pub VerdictsAreKept : Type 0
VerdictsAreKept = (is_member : ℕ → Bool) (rename : ℕ → ℕ) (declared renamed : ℕ → Declared)
    → IsRenaming is_member rename declared renamed → (residence_ns : ℕ) (offers : List Offer)
    → All (λ (o : Offer). IsTrue (is_member o.member)) offers
    → IsSameGroup is_member rename declared renamed residence_ns offers
