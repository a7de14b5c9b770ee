use Rattle.std.proofs.Common.{ℕ, ◌+◌, ◌<◌, List, ◌++◌, length, get_or, length-append, ◌∙◌, arith}
use Rattle.std.specs.Prelude.{Any}
use Rattle.std.proofs.Math.ListN.{get_or-append}
use Rattle.std.proofs.lemmas.List.{get_or-append-add, get_or_default}

-- an element of which a fact holds
pub any-at : {X : Type 0} (P : X → Type 0) (xs : List X) (i : ℕ) (d : X) → i < length xs → P (get_or xs i d) → Any P xs
any-at P xs i d h p = (i, get_or xs i d, h, get_or_default xs i (get_or xs i d) d h, p)

pub any-left : {X : Type 0} (P : X → Type 0) (xs ys : List X) → Any P xs → Any P (xs ++ ys)
any-left P xs ys a = (a.0, a.1, omega (arith, length-append xs ys, a.2), get_or-append xs ys a.1 a.0 a.2 ∙ a.3, a.4)

pub any-right : {X : Type 0} (P : X → Type 0) (xs ys : List X) → Any P ys → Any P (xs ++ ys)
any-right P xs ys a =
    (length xs + a.0, a.1, omega (arith, length-append xs ys, a.2), get_or-append-add xs ys a.0 a.1 ∙ a.3, a.4)
