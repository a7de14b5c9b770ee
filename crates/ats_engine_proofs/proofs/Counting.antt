use Rattle.std.proofs.Common.{◌≡◌, ℕ, zero, suc, ◌+◌, ◌<◌, ◌≤◌, Bool, true, false, cond, List, [], ◌∷◌, map, length}
use Rattle.std.proofs.Common.{get_or, set, replicate, refl, sym, ap, ◌∙◌, arith, All, count_by, get_or-set_other}
use Rattle.std.specs.Prelude.{◌≢◌, AllPairs}
use Rattle.std.proofs.lemmas.Bool.{true≢false}
use Rattle.std.proofs.lemmas.List.{length-replicate, get_or-map, get_or-replicate}
use Rattle.std.proofs.lemmas.List.Elements.{All-head, All-tail}
use Rattle.std.proofs.lemmas.List.Sums.{count_by-le-length}
use Rattle.ats_facts.proofs.Lists.{pairs_head, pairs_tail, count_by-cons}

-- the mark at a place is one of those that are set, and no longer once it is cleared
cleared : (marks : List Bool) (place : ℕ) → get_or marks place false ≡ true
    → count_by (λ (b : Bool). b) marks ≡ count_by (λ (b : Bool). b) (set marks place false) + 1
cleared [] place marked = absurd (true≢false (sym marked))
cleared (b ∷ marks) zero marked =
    omega (
      arith,
      count_by-cons (λ (b : Bool). b) b marks,
      count_by-cons (λ (b : Bool). b) false marks,
      ap {B = ℕ} (λ (b : Bool). cond b 1 0) marked,
    )
cleared (b ∷ marks) (suc place) marked =
    omega (
      arith,
      count_by-cons (λ (b : Bool). b) b marks,
      count_by-cons (λ (b : Bool). b) b (set marks place false),
      cleared marks place marked,
    )

-- pairwise different places at which marks are set are no more than the marks that are
marked_places : (marks : List Bool) (places : List ℕ) → AllPairs (λ (a b : ℕ). a ≢ b) places
    → All (λ (place : ℕ). get_or marks place false ≡ true) places → length places ≤ count_by (λ (b : Bool). b) marks
marked_places marks [] apart marked = omega arith
marked_places marks (place ∷ places) apart marked =
    let fewer : length places ≤ count_by (λ (b : Bool). b) (set marks place false) =
    marked_places (set marks place false) places (pairs_tail (λ (a b : ℕ). a ≢ b) place places apart)
    (λ k d h. get_or-set_other marks place (get_or places k d) false false
    (λ e. pairs_head (λ (a b : ℕ). a ≢ b) place places apart k d h (sym e))
    ∙ All-tail (λ (p : ℕ). get_or marks p false ≡ true) place places marked k d h) in
    omega (
      arith,
      cleared marks place
          (All-head (λ (p : ℕ). get_or marks p false ≡ true) place places marked),
    )

-- how many elements pass a test is how many marks it sets
count_by-marks : {X : Type 0} (test : X → Bool) (xs : List X)
    → count_by test xs ≡ count_by (λ (b : Bool). b) (map test xs)
count_by-marks test [] = refl
count_by-marks test (x ∷ xs) =
    count_by-cons test x xs ∙ ap (λ (n : ℕ). cond (test x) 1 0 + n) (count_by-marks test xs)
    ∙ sym (count_by-cons (λ (b : Bool). b) (test x) (map test xs))

-- pairwise different places of a list at which its elements pass a test are no more than the elements that pass
pub places_passing : {X : Type 0} (test : X → Bool) (default : X) (xs : List X) (places : List ℕ)
    → AllPairs (λ (a b : ℕ). a ≢ b) places → All (λ (place : ℕ). place < length xs) places
    → All (λ (place : ℕ). test (get_or xs place default) ≡ true) places → length places ≤ count_by test xs
places_passing {X} test default xs places apart within pass =
    let most : length places ≤ count_by (λ (b : Bool). b) (map test xs) =
    marked_places (map test xs) places apart (λ k d h.
    get_or-map test xs (get_or places k d) default false (within k d h) ∙ pass k d h) in
    omega (arith, count_by-marks test xs)

-- pairwise different numbers below a number are no more than this number
pub numbers_below : (n : ℕ) (numbers : List ℕ) → AllPairs (λ (a b : ℕ). a ≢ b) numbers
    → All (λ (number : ℕ). number < n) numbers → length numbers ≤ n
numbers_below n numbers apart below =
    let most : length numbers ≤ count_by (λ (b : Bool). b) (replicate n true) =
    marked_places (replicate n true) numbers apart
    (λ k d h. get_or-replicate n (get_or numbers k d) true false (below k d h)) in
    omega (arith, count_by-le-length (λ (b : Bool). b) (replicate n true), length-replicate n true)
