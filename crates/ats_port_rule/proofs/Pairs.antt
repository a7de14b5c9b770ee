use Rattle.std.proofs.Common.{ℕ, ◌<◌, List, length, get_or, All, subst}
use Rattle.std.proofs.lemmas.List.{get_or_default}

-- a relation of any two elements, by their places
pub all_of_all : {X : Type 0} (R : X → X → Type 0) (xs : List X)
    → ((i j : ℕ) (d : X) → i < length xs → j < length xs → R (get_or xs i d) (get_or xs j d))
    → All (λ (x : X). All (λ (y : X). R x y) xs) xs
all_of_all {X} R xs both i d hi j e hj =
    let P : X → Type 0 = λ (y : X). R (get_or xs i d) y in
    subst P (get_or_default xs j d e hj) (both i j d hi hj)
