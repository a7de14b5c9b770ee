use Rattle.std.proofs.Common.{◌≡◌, ℕ, zero, suc, ◌<◌, Bool, true, false, cond, List, [], ◌∷◌, ◌++◌, length, get_or, map}
use Rattle.std.proofs.Common.{filter, Option, Some, None, refl, sym, ap, subst, ◌∙◌, inl, inr, ◌⊎◌, arith}
use Rattle.std.specs.Prelude.{is_some, ◌&&◌, ◌||◌}
use Rattle.std.specs.List.{All, AllPairs, Contains, find, list_any}
use Rattle.std.specs.Option.{option_or}
use Rattle.std.proofs.lemmas.Bool.{or_cases}
use Rattle.std.proofs.lemmas.List.{get_or-map, length-map}
use Rattle.std.proofs.lemmas.List.Elements.{All-nil, All-cons, All-head, All-tail, All-append}
use Rattle.std.proofs.lemmas.List.Kept.{AllPairs-cons}
use Rattle.std.proofs.lemmas.Option.{none-some, same_Some}
use Rattle.ats_facts.proofs.Options.{option_or-none}
use Rattle.ats_facts.proofs.Lists.{pairs_tail}
use Rattle.ats_tally.specs.Reason.{first_some}

-- where an element of a list passes a test, what follows from each that passes
pub any_gives : {X : Type 0} (test : X → Bool) (Q : Type 0) (xs : List X) → All (λ (x : X). test x ≡ true → Q) xs
    → list_any test xs ≡ true → Q
any_gives test Q [] all any = absurd (let no : false ≡ true = any in cc)
any_gives {X} test Q (x ∷ xs) all any =
    elim (or_cases (test x) (list_any test xs) any) as (λ _. Q) [
      | inl here ↦ All-head (λ (x : X). test x ≡ true → Q) x xs all here
      | inr later ↦ any_gives test Q xs (All-tail (λ (x : X). test x ≡ true → Q) x xs all) later
    ]

pub list_any-map : {X Y : Type 0} (test : Y → Bool) (f : X → Y) (xs : List X)
    → list_any test (map f xs) ≡ list_any (λ (x : X). test (f x)) xs
list_any-map test f [] = refl
list_any-map test f (x ∷ xs) = ap (λ (b : Bool). test (f x) || b) (list_any-map test f xs)

chosen : (b t r : Bool) → cond b (t || r) r ≡ ((b && t) || r)
chosen true t r = refl
chosen false t r = refl

any_cond : {X : Type 0} (b : Bool) (test : X → Bool) (x : X) (xs : List X)
    → list_any test (cond b (x ∷ xs) xs) ≡ cond b (test x || list_any test xs) (list_any test xs)
any_cond true test x xs = refl
any_cond false test x xs = refl

pub list_any-filter : {X : Type 0} (test kept : X → Bool) (xs : List X)
    → list_any test (filter kept xs) ≡ list_any (λ (x : X). kept x && test x) xs
list_any-filter test kept [] = refl
list_any-filter test kept (x ∷ xs) =
    any_cond (kept x) test x (filter kept xs) ∙ chosen (kept x) (test x) (list_any test (filter kept xs))
    ∙ ap (λ (b : Bool). (kept x && test x) || b) (list_any-filter test kept xs)

pub is_some-find : {X : Type 0} (test : X → Bool) (xs : List X) → is_some (find test xs) ≡ list_any test xs
is_some-find test [] = refl
is_some-find {X} test (x ∷ xs) = by (test x) (is_some-find test xs)
  where
    by : (b : Bool) → is_some (find test xs) ≡ list_any test xs
        → is_some (cond b (Some x) (find test xs)) ≡ (b || list_any test xs)
    by true h = refl
    by false h = h

-- what is found passes, and is an element
pub record IsFound {X : Type 0} (test : X → Bool) (xs : List X) (found : X) : Type 0 where
  pub passes : test found ≡ true
  pub at : ℕ
  pub within : at < length xs
  pub is : (d : X) → get_or xs at d ≡ found

pub found_is : {X : Type 0} (test : X → Bool) (xs : List X) (found : X) → find test xs ≡ Some found
    → IsFound test xs found
found_is test [] found h = absurd (none-some found h)
found_is {X} test (x ∷ xs) found h = by (test x) refl h (found_is test xs found)
  where
    by : (b : Bool) → test x ≡ b → cond b (Some x) (find test xs) ≡ Some found
        → (find test xs ≡ Some found → IsFound test xs found) → IsFound test (x ∷ xs) found
    by true e h more = record {
      passes = sym (ap test (same_Some x found h)) ∙ e;
      at = zero;
      within = omega arith;
      is = λ d. same_Some x found h;
    }
    by false e h more =
        let f : IsFound test xs found = more h in
        record { passes = f.passes; at = suc f.at; within = omega (arith, f.within); is = λ d. f.is d }

-- what holds of each element holds of the one that is found
pub All-found : {X : Type 0} (P : X → Type 0) (test : X → Bool) (xs : List X) (found : X) → All P xs
    → find test xs ≡ Some found → P found
All-found P test xs found all h =
    let f : IsFound test xs found = found_is test xs found h in
    subst P (f.is found) (all f.at found f.within)

pub Contains-found : {X : Type 0} (test : X → Bool) (xs : List X) (found : X) → find test xs ≡ Some found
    → Contains xs found
Contains-found test xs found h =
    let f : IsFound test xs found = found_is test xs found h in
    (f.at, f.within, f.is found)

-- a list that holds a value, or none
pub option_cases : {X : Type 0} (o : Option X) → (o ≡ None) ⊎ ((x : X) × (o ≡ Some x))
option_cases None = inl refl
option_cases (Some x) = inr (x, refl)

-- pairs of elements of two lists, one after the other
pub AllPairs-append : {X : Type 0} (R : X → X → Type 0) (xs ys : List X) → AllPairs R xs → AllPairs R ys
    → All (λ (x : X). All (R x) ys) xs → AllPairs R (xs ++ ys)
AllPairs-append R [] ys first second across = second
AllPairs-append {X} R (x ∷ xs) ys first second across =
    AllPairs-cons R x (xs ++ ys)
    (All-append (R x) xs ys (λ k d h. first zero (suc k) d (omega arith) (omega arith))
    (All-head (λ (x : X). All (R x) ys) x xs across))
    (AllPairs-append R xs ys (λ i j d before within. first (suc i) (suc j) d (omega arith) (omega arith)) second
    (All-tail (λ (x : X). All (R x) ys) x xs across))

pub AllPairs-map : {X Y : Type 0} (R : Y → Y → Type 0) (f : X → Y) (xs : List X)
    → AllPairs (λ (a b : X). R (f a) (f b)) xs → AllPairs R (map f xs)
AllPairs-map R f [] pairs i j d before within = absurd (omega arith)
AllPairs-map {X} R f (x ∷ xs) pairs i j d before within =
    let long = length-map (x ∷ xs) f in
    let first = get_or-map f (x ∷ xs) i x d (omega (arith, long)) in
    let second = get_or-map f (x ∷ xs) j x d (omega (arith, long)) in
    subst (λ a. R a (get_or (map f (x ∷ xs)) j d)) (sym first)
    (subst (λ b. R (f (get_or (x ∷ xs) i x)) b) (sym second) (pairs i j x before (omega (arith, long))))

-- the first value along a list, where there is none
pub first_some-none : {A B : Type 0} (given : A → Option B) (xs : List A) → All (λ (x : A). given x ≡ None) xs
    → first_some given xs ≡ None
first_some-none given [] all = refl
first_some-none {A} {B} given (x ∷ xs) all =
    ap (λ (o : Option B). option_or o (first_some given xs)) (All-head (λ (x : A). given x ≡ None) x xs all)
    ∙ first_some-none given xs (All-tail (λ (x : A). given x ≡ None) x xs all)

pub none_first : {A B : Type 0} (given : A → Option B) (xs : List A) → first_some given xs ≡ None
    → All (λ (x : A). given x ≡ None) xs
none_first {A} given [] h = All-nil (λ (x : A). given x ≡ None)
none_first {A} given (x ∷ xs) h =
    let parts = option_or-none (given x) (first_some given xs) h in
    All-cons (λ (x : A). given x ≡ None) x xs parts.0 (none_first given xs parts.1)

-- two lists in one strict order with the same elements are the same
not_empty : {X : Type 0} (x : X) → Contains [] x → ⊥
not_empty x c = omega (arith, c.1)

ahead_of : {X : Type 0} (R : X → X → Type 0) (x : X) (xs : List X) → AllPairs R (x ∷ xs) → (y : X)
    → Contains xs y → R x y
ahead_of R x xs pairs y c = subst (R x) c.2 (pairs zero (suc c.0) y (omega arith) (omega (arith, c.1)))

head_or_later : {X : Type 0} (x : X) (xs : List X) (y : X) → Contains (x ∷ xs) y → (x ≡ y) ⊎ Contains xs y
head_or_later x xs y (zero, within, is) = inl is
head_or_later x xs y (suc k, within, is) = inr (k, omega arith, is)

same_head : {X : Type 0} (R : X → X → Type 0) → ((a b : X) → R a b → R b a → ⊥)
    → (x : X) (xs : List X) (y : X) (ys : List X) → AllPairs R (x ∷ xs) → AllPairs R (y ∷ ys)
    → Contains (y ∷ ys) x → Contains (x ∷ xs) y → x ≡ y
same_head R apart x xs y ys first second there back = elim (head_or_later y ys x there) as (λ _. x ≡ y) [
  | inl e ↦ sym e
  | inr later ↦ elim (head_or_later x xs y back) as (λ _. x ≡ y) [
    | inl e ↦ e
    | inr also ↦ absurd (apart x y (ahead_of R x xs first y also) (ahead_of R y ys second x later))
  ]
]

-- an element behind the first is not the first of the other list
behind_head : {X : Type 0} (R : X → X → Type 0) → ((a b : X) → R a b → R b a → ⊥)
    → (x : X) (xs : List X) (y : X) (ys : List X) → AllPairs R (x ∷ xs) → x ≡ y
    → (z : X) → Contains xs z → Contains (y ∷ ys) z → Contains ys z
behind_head R apart x xs y ys first same z c there = elim (head_or_later y ys z there) as (λ _. Contains ys z) [
  | inl e ↦ absurd (let r : R x x = subst (R x) (sym (same ∙ e)) (ahead_of R x xs first z c) in apart x x r r)
  | inr later ↦ later
]

behind : {X : Type 0} (x : X) (xs : List X) (z : X) → Contains xs z → Contains (x ∷ xs) z
behind x xs z c = (suc c.0, omega (arith, c.1), c.2)

pub same_in_order : {X : Type 0} (R : X → X → Type 0) → ((a b : X) → R a b → R b a → ⊥) → (xs ys : List X)
    → AllPairs R xs → AllPairs R ys
    → ((x : X) → Contains xs x → Contains ys x) → ((y : X) → Contains ys y → Contains xs y) → xs ≡ ys
same_in_order R apart [] [] first second there back = refl
same_in_order R apart [] (y ∷ ys) first second there back = absurd (not_empty y (back y (zero, omega arith, refl)))
same_in_order R apart (x ∷ xs) [] first second there back = absurd (not_empty x (there x (zero, omega arith, refl)))
same_in_order {X} R apart (x ∷ xs) (y ∷ ys) first second there back =
    let same : x ≡ y = same_head R apart x xs y ys first second (there x (zero, omega arith, refl))
    (back y (zero, omega arith, refl)) in
    let rests : xs ≡ ys = same_in_order R apart xs ys (pairs_tail R x xs first) (pairs_tail R y ys second)
    (λ z c. behind_head R apart x xs y ys first same z c (there z (behind x xs z c)))
    (λ z c. behind_head R apart y ys x xs second (sym same) z c (back z (behind y ys z c))) in
    ap (λ (t : List X). x ∷ t) rests ∙ ap (λ (h : X). h ∷ ys) same
