-- Lists of numbers that are parts of another list, in its order.
use Rattle.std.proofs.Common.{◌≡◌, ℕ, zero, suc, ◌+◌, ◌-◌, ◌≤◌, ◌⊎◌, inl, inr, List, [], ◌∷◌, ◌++◌, take, drop}
use Rattle.std.proofs.Common.{refl, sym, subst, arith}
use Rattle.std.proofs.Math.Seq.{take-add}
use Rattle.std.specs.List.{All, AllPairs}
use Rattle.std.proofs.lemmas.List.{take-append-drop}
use Rattle.std.proofs.lemmas.List.Elements.{All-cons, All-head, All-nil, All-tail}
use Rattle.std.proofs.lemmas.List.Kept.{AllPairs-cons}
use Rattle.ats_facts.proofs.Lists.{pairs_head, pairs_tail}

-- the first list is what is left of the second where some elements go
abbrev pub IsPart : List ℕ → List ℕ → Type 0
IsPart [] ys = Unit {0}
IsPart (x ∷ xs) [] = ⊥
IsPart (x ∷ xs) (y ∷ ys) = ((x ≡ y) × IsPart xs ys) ⊎ IsPart (x ∷ xs) ys

-- what holds of each element holds of each of a part
pub part_all : (P : ℕ → Type 0) (xs ys : List ℕ) → IsPart xs ys → All P ys → All P xs
part_all P [] ys part all = All-nil P
part_all P (x ∷ xs) [] part all = absurd part
part_all P (x ∷ xs) (y ∷ ys) part all = elim part as (λ _. All P (x ∷ xs)) [
  | inl h ↦ All-cons P x xs (subst P (sym h.0) (All-head P y ys all)) (part_all P xs ys h.1 (All-tail P y ys all))
  | inr later ↦ part_all P (x ∷ xs) ys later (All-tail P y ys all)
]

-- and what holds of the pairs, of those of a part
pub part_pairs : (R : ℕ → ℕ → Type 0) (xs ys : List ℕ) → IsPart xs ys → AllPairs R ys → AllPairs R xs
part_pairs R [] ys part pairs = λ i j d below within. absurd (omega arith)
part_pairs R (x ∷ xs) [] part pairs = absurd part
part_pairs R (x ∷ xs) (y ∷ ys) part pairs = elim part as (λ _. AllPairs R (x ∷ xs)) [
  | inl h ↦ AllPairs-cons R x xs
      (part_all (R x) xs ys h.1 (subst (λ (n : ℕ). All (R n) ys) (sym h.0) (pairs_head R y ys pairs)))
      (part_pairs R xs ys h.1 (pairs_tail R y ys pairs))
  | inr later ↦ part_pairs R (x ∷ xs) ys later (pairs_tail R y ys pairs)
]

pub part_later : (xs ys : List ℕ) (y : ℕ) → IsPart xs ys → IsPart xs (y ∷ ys)
part_later [] ys y part = tt
part_later (x ∷ xs) ys y part = inr part

pub part_same : (xs : List ℕ) → IsPart xs xs
part_same [] = tt
part_same (x ∷ xs) = inl (refl, part_same xs)

pub part_take : (n : ℕ) (xs : List ℕ) → IsPart (take n xs) xs
part_take zero xs = tt
part_take (suc n) [] = tt
part_take (suc n) (x ∷ xs) = inl (refl, part_take n xs)

pub part_append : (xs ys us vs : List ℕ) → IsPart xs ys → IsPart us vs → IsPart (xs ++ us) (ys ++ vs)
part_append [] [] us vs first second = second
part_append [] (y ∷ ys) us vs first second = part_later us (ys ++ vs) y (part_append [] ys us vs tt second)
part_append (x ∷ xs) [] us vs first second = absurd first
part_append (x ∷ xs) (y ∷ ys) us vs first second =
    elim first as (λ _. IsPart (x ∷ xs ++ us) (y ∷ ys ++ vs)) [
      | inl h ↦ inl (h.0, part_append xs ys us vs h.1 second)
      | inr later ↦ inr (part_append (x ∷ xs) ys us vs later second)
    ]

pub part_front : (xs ys zs : List ℕ) → IsPart xs ys → IsPart xs (ys ++ zs)
part_front [] ys zs part = tt
part_front (x ∷ xs) [] zs part = absurd part
part_front (x ∷ xs) (y ∷ ys) zs part = elim part as (λ _. IsPart (x ∷ xs) (y ∷ ys ++ zs)) [
  | inl h ↦ inl (h.0, part_front xs ys zs h.1)
  | inr later ↦ inr (part_front (x ∷ xs) ys zs later)
]

-- the first elements up to a later place
take-between : (n m : ℕ) (xs : List ℕ) → n ≤ m → take m xs ≡ take n xs ++ take (m - n) (drop n xs)
take-between n m xs h =
    let whole : m ≡ n + (m - n) = omega (arith, h) in
    subst (λ (k : ℕ). take k xs ≡ take n xs ++ take (m - n) (drop n xs)) (sym whole) (take-add n (m - n) xs)

-- a part of the first elements is one of more
pub part_more : (xs ys : List ℕ) (n m : ℕ) → n ≤ m → IsPart xs (take n ys) → IsPart xs (take m ys)
part_more xs ys n m h part =
    subst (IsPart xs) (sym (take-between n m ys h)) (part_front xs (take n ys) (take (m - n) (drop n ys)) part)

-- parts of the first elements and of those behind them, up to a place, are together a part
pub part_next : (xs us ys : List ℕ) (n m : ℕ) → n ≤ m → IsPart xs (take n ys) → IsPart us (take (m - n) (drop n ys))
    → IsPart (xs ++ us) (take m ys)
part_next xs us ys n m h first second =
    subst (IsPart (xs ++ us)) (sym (take-between n m ys h))
    (part_append xs (take n ys) us (take (m - n) (drop n ys)) first second)

pub part_rest : (xs us ys : List ℕ) (n : ℕ) → IsPart xs (take n ys) → IsPart us (drop n ys) → IsPart (xs ++ us) ys
part_rest xs us ys n first second =
    subst (IsPart (xs ++ us)) (take-append-drop n ys) (part_append xs (take n ys) us (drop n ys) first second)
