use Rattle.std.proofs.Common.{◌≡◌, ℕ, ◌≤◌, min, max, List, [], ◌∷◌, ◌++◌, Option, Some, None}
use Rattle.std.proofs.Common.{sym, subst, inl, inr, arith}
use Rattle.std.specs.Prelude.{Contains}
use Rattle.std.proofs.lemmas.Bool.{cases_lt}
use Rattle.std.proofs.lemmas.List.Elements.{All-push, All-nil, All-weaker, Contains-append_left, Contains-push}
use Rattle.ats_fit.specs.Measured.{AreEnds, AreSizesOf}
use Rattle.ats_fit.specs.Steps.{sizes_with}
use Rattle.ats_fit.specs.declared.measured.Sizes.{Sizes}

-- a number of a list, or the one behind it
kept : (octets : List ℕ) (x n m : ℕ) → Contains octets n → m ≡ n → Contains (octets ++ x ∷ []) m
kept octets x n m there same =
    subst (Contains (octets ++ x ∷ [])) (sym same) (Contains-append_left octets (x ∷ []) n there)

new : (octets : List ℕ) (x m : ℕ) → m ≡ x → Contains (octets ++ x ∷ []) m
new octets x m same = subst (Contains (octets ++ x ∷ [])) (sym same) (Contains-push octets x)

-- the least and the greatest octets with one frame more
pub ends-push : (octets : List ℕ) (sizes : Sizes) (x : ℕ) → AreEnds octets sizes
    → AreEnds (octets ++ x ∷ []) (sizes_with (Some sizes) x)
ends-push octets sizes x are = record {
  least = elim (cases_lt x sizes.least) as (λ _. Contains (octets ++ x ∷ []) (min sizes.least x)) [
    | inl less ↦ new octets x (min sizes.least x) (omega arith)
    | inr more ↦ kept octets x sizes.least (min sizes.least x) are.least (omega arith)
  ];
  none_less = All-push (λ n. min sizes.least x ≤ n) octets x
      (All-weaker (λ n. sizes.least ≤ n) (λ n. min sizes.least x ≤ n) (λ n h. omega arith) octets are.none_less)
      (omega arith);
  greatest = elim (cases_lt sizes.greatest x) as (λ _. Contains (octets ++ x ∷ []) (max sizes.greatest x)) [
    | inl more ↦ new octets x (max sizes.greatest x) (omega arith)
    | inr less ↦ kept octets x sizes.greatest (max sizes.greatest x) are.greatest (omega arith)
  ];
  none_greater = All-push (λ n. n ≤ max sizes.greatest x) octets x
      (All-weaker (λ n. n ≤ sizes.greatest) (λ n. n ≤ max sizes.greatest x) (λ n h. omega arith) octets
      are.none_greater) (omega arith);
}

-- those of one frame
ends-one : (x : ℕ) → AreEnds (x ∷ []) (sizes_with None x)
ends-one x = record {
  least = Contains-push [] x;
  none_less = All-push (λ n. x ≤ n) [] x (All-nil (λ n. x ≤ n)) (omega arith);
  greatest = Contains-push [] x;
  none_greater = All-push (λ n. n ≤ x) [] x (All-nil (λ n. n ≤ x)) (omega arith);
}

pub sizes-push : (octets : List ℕ) (sizes : Option Sizes) (x : ℕ) → AreSizesOf octets sizes
    → AreEnds (octets ++ x ∷ []) (sizes_with sizes x)
sizes-push octets None x none =
    subst (λ (l : List ℕ). AreEnds (l ++ x ∷ []) (sizes_with None x)) (sym none) (ends-one x)
sizes-push octets (Some sizes) x are = ends-push octets sizes x are
