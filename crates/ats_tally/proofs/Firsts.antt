-- The first value that a function gives along a list, in a loop over it.
use Rattle.std.proofs.Common.{◌≡◌, ℕ, suc, ◌+◌, ◌<◌, ◌≤◌, Bool, true, false, cond, List, [], ◌∷◌, ◌++◌, drop, length}
use Rattle.std.proofs.Common.{get_or, Option, Some, None, refl, sym, ap, subst, ◌∙◌, drop-cons, add-one}
use Rattle.std.specs.List.{All}
use Rattle.std.specs.Option.{option_or}
use Rattle.std.proofs.lemmas.List.{drop_all}
use Rattle.std.proofs.lemmas.List.Elements.{All-head, All-tail}
use Rattle.std.proofs.lemmas.Option.{none-some, same_Some}
use Rattle.ats_tally.specs.Reason.{first_some}

pub first_step : {A B : Type 0} (given : A → Option B) (xs : List A) (i : ℕ) (d : A) → i < length xs
    → given (get_or xs i d) ≡ None → first_some given (drop i xs) ≡ first_some given (drop (i + 1) xs)
first_step {A} {B} given xs i d within none =
    ap (first_some given) (drop-cons xs i d within)
    ∙ ap (λ (o : Option B). option_or o (first_some given (drop (suc i) xs))) none
    ∙ ap (λ (n : ℕ). first_some given (drop n xs)) (sym (add-one i))

pub first_found : {A B : Type 0} (given : A → Option B) (xs : List A) (i : ℕ) (d : A) (found : B) → i < length xs
    → given (get_or xs i d) ≡ Some found → first_some given (drop i xs) ≡ Some found
first_found {A} {B} given xs i d found within some =
    ap (first_some given) (drop-cons xs i d within)
    ∙ ap (λ (o : Option B). option_or o (first_some given (drop (suc i) xs))) some

pub first_end : {A B : Type 0} (given : A → Option B) (xs : List A) (i : ℕ) → length xs ≤ i
    → first_some given (drop i xs) ≡ None
first_end given xs i past = ap (first_some given) (drop_all i xs past)

pub first_append : {A B : Type 0} (given : A → Option B) (xs ys : List A)
    → first_some given (xs ++ ys) ≡ option_or (first_some given xs) (first_some given ys)
first_append given [] ys = refl
first_append {A} {B} given (x ∷ xs) ys = ap (option_or (given x)) (first_append given xs ys) ∙ by (given x)
  where
    by : (o : Option B) → option_or o (option_or (first_some given xs) (first_some given ys))
        ≡ option_or (option_or o (first_some given xs)) (first_some given ys)
    by None = refl
    by (Some y) = refl

-- what is so of each value that a function gives is so of the first
pub first_where : {A B : Type 0} (given : A → Option B) (P : B → Type 0) (xs : List A) (found : B)
    → All (λ (x : A). (b : B) → given x ≡ Some b → P b) xs → first_some given xs ≡ Some found → P found
first_where given P [] found all some = absurd (none-some found some)
first_where {A} {B} given P (x ∷ xs) found all some =
    by (given x) refl
    (first_where given P xs found (All-tail (λ (x : A). (b : B) → given x ≡ Some b → P b) x xs all)) some
  where
    by : (o : Option B) → given x ≡ o → (first_some given xs ≡ Some found → P found)
        → option_or o (first_some given xs) ≡ Some found → P found
    by None e later h = later h
    by (Some b) e later h = All-head (λ (x : A). (b : B) → given x ≡ Some b → P b) x xs all found (e ∙ h)

-- the first of two values that may be there
pub or_where : {B : Type 0} (P : B → Type 0) (a b : Option B) (found : B) → (a ≡ Some found → P found)
    → (b ≡ Some found → P found) → option_or a b ≡ Some found → P found
or_where P None b found first second h = second h
or_where P (Some x) b found first second h = first h

-- a value that a test gives
pub where_passed : {B : Type 0} (P : B → Type 0) (t : Bool) (x found : B) → P x
    → cond t None (Some x) ≡ Some found → P found
where_passed P true x found p h = absurd (none-some found h)
where_passed P false x found p h = subst P (same_Some x found h) p

pub where_failed : {B : Type 0} (P : B → Type 0) (t : Bool) (x found : B) → P x
    → cond t (Some x) None ≡ Some found → P found
where_failed P true x found p h = subst P (same_Some x found h) p
where_failed P false x found p h = absurd (none-some found h)
