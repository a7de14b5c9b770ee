use Rattle.std.proofs.Common.{◌≡◌, ℕ, ◌+◌, Bool, true, List, [], ◌∷◌, ◌++◌, length, All}
use Rattle.std.proofs.Common.{cond, sym, ◌∙◌, ap, refl, arith}
use Rattle.std.specs.Prelude.{count_by, map}
use Rattle.std.proofs.lemmas.Bool.{cond-true}
use Rattle.std.proofs.lemmas.List.Elements.{All-head, All-tail}
use Rattle.std.proofs.lemmas.List.Sums.{sum_by-append}
use Rattle.ats_facts.proofs.Lists.{count_by-cons}

pub count_by-append : {X : Type 0} (test : X → Bool) (xs ys : List X)
    → count_by test (xs ++ ys) ≡ count_by test xs + count_by test ys
count_by-append test xs ys = sum_by-append _ xs ys

pub count_by-all : {X : Type 0} (test : X → Bool) (xs : List X) → All (λ (x : X). test x ≡ true) xs
    → count_by test xs ≡ length xs
count_by-all test [] all = refl
count_by-all {X} test (x ∷ xs) all =
    let P : X → Type 0 = λ (y : X). test y ≡ true in
    omega (
      arith,
      count_by-cons test x xs,
      cond-true {A = ℕ} (test x) 1 0 (All-head P x xs all),
      count_by-all test xs (All-tail P x xs all),
    )

pub count_by-map : {X Y : Type 0} (f : X → Y) (test : Y → Bool) (xs : List X)
    → count_by test (map f xs) ≡ count_by (λ (x : X). test (f x)) xs
count_by-map f test [] = refl
count_by-map {X} f test (x ∷ xs) =
    count_by-cons test (f x) (map f xs)
    ∙ ap (λ (n : ℕ). cond (test (f x)) 1 0 + n) (count_by-map f test xs)
    ∙ sym (count_by-cons (λ (y : X). test (f y)) x xs)
