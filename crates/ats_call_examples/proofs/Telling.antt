use Rattle.std.proofs.Common.{◌≡◌, ℕ, List, [], ◌∷◌, Option, Result, subst, sym}
use Rattle.std.specs.Prelude.{All, IsSome}
use Rattle.std.proofs.lemmas.List.Elements.{All-cons, All-nil}
use Rattle.ats_command_input.specs.Answer.{Answer}

-- That the bytes of the files of a call are told, and what is due by what they declare.

pub one_told : (tells : List ℕ → Option (List ℕ)) (name : List ℕ) → IsSome (tells name)
    → All (λ (n : List ℕ). IsSome (tells n)) (name ∷ [])
one_told tells name h = let Told : List ℕ → Type 0 = λ (n : List ℕ). IsSome (tells n) in
    All-cons Told name [] h (All-nil Told)

pub two_told : (tells : List ℕ → Option (List ℕ)) (name other : List ℕ) → IsSome (tells name) → IsSome (tells other)
    → All (λ (n : List ℕ). IsSome (tells n)) (name ∷ other ∷ [])
two_told tells name other h k = let Told : List ℕ → Type 0 = λ (n : List ℕ). IsSome (tells n) in
    All-cons Told name (other ∷ []) h (All-cons Told other [] k (All-nil Told))

-- what is due where the files declare this
pub of_declared : {A : Type 0} (Is : Result A Answer → Answer → Type 0) (due declared : Result A Answer)
    (answer : Answer) → due ≡ declared → Is declared answer → Is due answer
of_declared {A} Is due declared answer same is = subst (λ (d : Result A Answer). Is d answer) (sym same) is
