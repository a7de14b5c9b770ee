-- A port is at one hop of one leg.
use Rattle.std.proofs.Common.{◌≡◌, ◌≢◌, ℕ, zero, suc, ◌<◌, inl, inr, List, [], ◌∷◌, length, get_or, refl, sym, ap}
use Rattle.std.proofs.Common.{◌∙◌, arith}
use Rattle.std.specs.List.{AllPairs, concat}
use Rattle.std.proofs.lemmas.Bool.{cases_lt}
use Rattle.ats_streams.specs.Branches.{leg_at}
use Rattle.ats_trace.proofs.Legs.{place_is, place_of, place_within}

-- this is the port at a hop of a leg
pub record IsAt (legs : List (List ℕ)) (port leg hop : ℕ) : Type 0 where
  pub in_legs : leg < length legs
  pub in_leg : hop < length (leg_at legs leg)
  pub is : get_or (leg_at legs leg) hop 0 ≡ port

-- hops of legs with one place are one
place_one : (legs : List (List ℕ)) (l h m k : ℕ) → l < length legs → h < length (leg_at legs l) → m < length legs
    → k < length (leg_at legs m) → place_of legs l h ≡ place_of legs m k → (l ≡ m) × (h ≡ k)
place_one [] l h m k in_legs in_leg other_legs other_leg same = absurd (omega arith)
place_one (leg ∷ legs) zero h zero k in_legs in_leg other_legs other_leg same = (refl, same)
place_one (leg ∷ legs) zero h (suc m) k in_legs in_leg other_legs other_leg same = absurd (omega (arith, in_leg, same))
place_one (leg ∷ legs) (suc l) h zero k in_legs in_leg other_legs other_leg same =
    absurd (omega (arith, other_leg, same))
place_one (leg ∷ legs) (suc l) h (suc m) k in_legs in_leg other_legs other_leg same =
    let further : (l ≡ m) × (h ≡ k) =
    place_one legs l h m k (omega arith) in_leg (omega arith) other_leg (omega (arith, same)) in
    (ap suc further.0, further.1)

-- where no port is there twice, a port is at one hop of one leg
pub at_one : (legs : List (List ℕ)) (port l h m k : ℕ) → AllPairs (λ p q. p ≢ q) (concat legs) → IsAt legs port l h
    → IsAt legs port m k → (l ≡ m) × (h ≡ k)
at_one legs port l h m k apart one other =
    place_one legs l h m k one.in_legs one.in_leg other.in_legs other.in_leg same
  where
    here : get_or (concat legs) (place_of legs l h) 0 ≡ port
    here = place_is legs l h one.in_legs one.in_leg ∙ one.is

    there : get_or (concat legs) (place_of legs m k) 0 ≡ port
    there = place_is legs m k other.in_legs other.in_leg ∙ other.is

    same : place_of legs l h ≡ place_of legs m k
    same = elim (cases_lt (place_of legs l h) (place_of legs m k)) as (λ _. place_of legs l h ≡ place_of legs m k) [
      | inl less ↦ absurd (apart (place_of legs l h) (place_of legs m k) 0 less
          (place_within legs m k other.in_legs other.in_leg) (here ∙ sym there))
      | inr most ↦ elim (cases_lt (place_of legs m k) (place_of legs l h))
          as (λ _. place_of legs l h ≡ place_of legs m k) [
            | inl less ↦ absurd (apart (place_of legs m k) (place_of legs l h) 0 less
                (place_within legs l h one.in_legs one.in_leg) (there ∙ sym here))
            | inr least ↦ omega (arith, most, least)
          ]
    ]
