use Rattle.std.proofs.Common.{◌≡◌, ℕ, zero, suc, ◌<◌, Bool, true, false, ◌&&◌, ◌||◌, List, [], ◌∷◌, All, refl, arith}
use Rattle.std.proofs.Common.{inl, inr, ◌⊎◌}
use Rattle.std.specs.Prelude.{◌≤◌, nat_le, nat_lt, ◌==◌, not, AllPairs}
use Rattle.std.specs.List.{list_all}
use Rattle.std.proofs.lemmas.Bool.{and_parts, false≢true, cases_eq}
use Rattle.std.proofs.lemmas.Bool.Decides.{nat_tests}
use Rattle.std.proofs.lemmas.List.Elements.{All-weaker}
use Rattle.std.proofs.lemmas.List.Kept.{AllPairs-cons}
use Rattle.std.proofs.lemmas.List.Sums.{AllPass-from_list_all, list_all-from_AllPass}

-- Tests of closed lists, which compute, and what each of them shows.

-- what tests of numbers show
pub le_of : (a b : ℕ) → nat_le a b ≡ true → a ≤ b
le_of a b h = grind (arith, nat_tests)

pub lt_of : (a b : ℕ) → nat_lt a b ≡ true → a < b
lt_of a b h = grind (arith, nat_tests)

pub eq_of : (a b : ℕ) → (a == b) ≡ true → a ≡ b
eq_of a b h = grind (arith, nat_tests)

-- the first test implies the second
pub implied : (a b : Bool) → (not a || b) ≡ true → a ≡ true → b ≡ true
implied true true h p = refl
implied true false h p = h
implied false b h p = absurd (false≢true p)

pub either : (a b : Bool) → (a || b) ≡ true → (a ≡ true) ⊎ (b ≡ true)
either true b h = inl refl
either false b h = inr h

pub all_by : {X : Type 0} (P : X → Type 0) (test : X → Bool) → ((x : X) → test x ≡ true → P x) → (xs : List X)
    → list_all test xs ≡ true → All P xs
all_by P test shows xs passed = All-weaker (λ x. test x ≡ true) P shows xs (AllPass-from_list_all test xs passed)

pub test_of_all : {X : Type 0} (P : X → Type 0) (test : X → Bool) → ((x : X) → P x → test x ≡ true) → (xs : List X)
    → All P xs → list_all test xs ≡ true
test_of_all P test passes xs all = list_all-from_AllPass test xs (All-weaker P (λ x. test x ≡ true) passes xs all)

-- each element and each later one pass
abbrev pub pairs_pass : {X : Type 0} → (X → X → Bool) → List X → Bool
pairs_pass test [] = true
pairs_pass test (x ∷ xs) = list_all (test x) xs && pairs_pass test xs

no_pairs : {X : Type 0} (R : X → X → Type 0) → AllPairs R []
no_pairs R i j d before within = absurd (omega arith)

pub pairs_by : {X : Type 0} (R : X → X → Type 0) (test : X → X → Bool) → ((x y : X) → test x y ≡ true → R x y)
    → (xs : List X) → pairs_pass test xs ≡ true → AllPairs R xs
pairs_by R test shows [] passed = no_pairs R
pairs_by R test shows (x ∷ xs) passed =
    let parts : (list_all (test x) xs ≡ true) × (pairs_pass test xs ≡ true) =
    and_parts (list_all (test x) xs) (pairs_pass test xs) passed in
    AllPairs-cons R x xs (all_by (R x) (test x) (shows x) xs parts.0) (pairs_by R test shows xs parts.1)

-- each number below n passes
abbrev pub each_below : (ℕ → Bool) → ℕ → Bool
each_below test zero = true
each_below test (suc n) = test n && each_below test n

pub below_by : (test : ℕ → Bool) (n : ℕ) → each_below test n ≡ true → (k : ℕ) → k < n → test k ≡ true
below_by test zero passed k within = absurd (omega arith)
below_by test (suc n) passed k within =
    let parts : (test n ≡ true) × (each_below test n ≡ true) = and_parts (test n) (each_below test n) passed in
    elim (cases_eq k n) [ inl same ↦ rw same parts.0 | inr other ↦ below_by test n parts.1 k (omega arith) ]
