-- Lists that are parts of another list, in its order.
use Rattle.std.proofs.Common.{◌≡◌, ℕ, ◌≤◌, ◌⊎◌, inl, inr, List, [], ◌∷◌, ◌++◌, All, sum_by, refl, sym, ap, subst, ◌∙◌}
use Rattle.std.proofs.Common.{arith}
use Rattle.std.proofs.lemmas.List.Elements.{All-nil, All-cons, All-head, All-tail}
use Rattle.std.proofs.lemmas.List.Sums.{sum_by-cons}

-- the first list is what is left of the second where some elements go
abbrev pub IsPart : {X : Type 0} → List X → List X → Type 0
IsPart [] ys = Unit {0}
IsPart (x ∷ xs) [] = ⊥
IsPart (x ∷ xs) (y ∷ ys) = ((x ≡ y) × IsPart xs ys) ⊎ IsPart (x ∷ xs) ys

-- what holds of each element holds of each of a part
pub part_all : {X : Type 0} (P : X → Type 0) (xs ys : List X) → IsPart xs ys → All P ys → All P xs
part_all P [] ys part all = All-nil P
part_all P (x ∷ xs) [] part all = absurd part
part_all P (x ∷ xs) (y ∷ ys) part all = elim part as (λ _. All P (x ∷ xs)) [
  | inl h ↦ All-cons P x xs (subst P (sym h.0) (All-head P y ys all)) (part_all P xs ys h.1 (All-tail P y ys all))
  | inr later ↦ part_all P (x ∷ xs) ys later (All-tail P y ys all)
]

-- and a part weighs no more
pub part-le : {X : Type 0} (f : X → ℕ) (xs ys : List X) → IsPart xs ys → sum_by f xs ≤ sum_by f ys
part-le f [] ys part = omega arith
part-le f (x ∷ xs) [] part = absurd part
part-le f (x ∷ xs) (y ∷ ys) part = elim part as (λ _. sum_by f (x ∷ xs) ≤ sum_by f (y ∷ ys)) [
  | inl h ↦ omega (arith, part-le f xs ys h.1, ap f h.0, sum_by-cons f x xs, sum_by-cons f y ys)
  | inr later ↦ omega (arith, part-le f (x ∷ xs) ys later, sum_by-cons f y ys)
]

pub part_later : {X : Type 0} (xs ys : List X) (y : X) → IsPart xs ys → IsPart xs (y ∷ ys)
part_later [] ys y part = tt
part_later (x ∷ xs) ys y part = inr part

pub part_same : {X : Type 0} (xs : List X) → IsPart xs xs
part_same [] = tt
part_same (x ∷ xs) = inl (refl, part_same xs)

pub part_of_part : {X : Type 0} (xs ys zs : List X) → IsPart xs ys → IsPart ys zs → IsPart xs zs
part_of_part [] ys zs first second = tt
part_of_part (x ∷ xs) [] zs first second = absurd first
part_of_part (x ∷ xs) (y ∷ ys) [] first second = absurd second
part_of_part (x ∷ xs) (y ∷ ys) (z ∷ zs) first second = elim second as (λ _. IsPart (x ∷ xs) (z ∷ zs)) [
  | inl h ↦ elim first as (λ _. IsPart (x ∷ xs) (z ∷ zs)) [
    | inl k ↦ inl (k.0 ∙ h.0, part_of_part xs ys zs k.1 h.1)
    | inr later ↦ inr (part_of_part (x ∷ xs) ys zs later h.1)
  ]
  | inr later ↦ inr (part_of_part (x ∷ xs) (y ∷ ys) zs first later)
]

pub part_append : {X : Type 0} (xs ys us vs : List X) → IsPart xs ys → IsPart us vs → IsPart (xs ++ us) (ys ++ vs)
part_append [] [] us vs first second = second
part_append [] (y ∷ ys) us vs first second = part_later us (ys ++ vs) y (part_append [] ys us vs tt second)
part_append (x ∷ xs) [] us vs first second = absurd first
part_append (x ∷ xs) (y ∷ ys) us vs first second = elim first as (λ _. IsPart (x ∷ xs ++ us) (y ∷ ys ++ vs)) [
  | inl h ↦ inl (h.0, part_append xs ys us vs h.1 second)
  | inr later ↦ inr (part_append (x ∷ xs) ys us vs later second)
]

-- what is behind is a part
pub part_behind : {X : Type 0} (xs ys : List X) → IsPart ys (xs ++ ys)
part_behind [] ys = part_same ys
part_behind (x ∷ xs) ys = part_later ys (xs ++ ys) x (part_behind xs ys)
