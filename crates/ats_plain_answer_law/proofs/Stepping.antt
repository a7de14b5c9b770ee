use Rattle.std.proofs.Common.{◌≡◌, ℕ, List, Option, Ok, Err, sym, ap, subst}
use Rattle.std.specs.Prelude.{◌↔◌, Result}
use Rattle.std.specs.Option.{option_map}
use Rattle.ats_num.specs.Failure.{◌>>=◌}
use Rattle.ats_command_input.specs.Answer.{Answer, settled}
use Rattle.ats_command_due.specs.Judged.{judged}

-- One step of a command after the other.

-- what a command comes to from a value that is read
abbrev pub by_value : {A : Type 0} → (A → Result (List ℕ) Answer) → Result A Answer → Answer
by_value judge read = settled (read >>= judge)

-- a text, unless something stands against it
abbrev pub weighed : {W : Type 0} → (W → List ℕ) → List ℕ → Option W → Answer
weighed tell text why = settled (judged text (option_map tell why))

-- a value, unless something stands against it
abbrev pub unless : {A W : Type 0} → (W → List ℕ) → A → Option W → Result A Answer
unless tell value why = judged value (option_map tell why)

-- what is not read stops what goes on from it
pub stop : {A B : Type 0} (read : Result A Answer) (due : Answer) (go : A → Result B Answer) → read ≡ Err due
    → (read >>= go) ≡ Err due
stop {A} read due go is = ap (λ (r : Result A Answer). r >>= go) is

-- and from what is read it goes on
pub step : {A B : Type 0} (read : Result A Answer) (value : A) (go : A → Result B Answer) → read ≡ Ok value
    → (read >>= go) ≡ go value
step {A} read value go is = ap (λ (r : Result A Answer). r >>= go) is

-- what is said of the one of two equals comes to what is said of the other
pub through : {A Q : Type 0} (Is : A → Type 0) (one other : A) → one ≡ other → (Is other → Q) → (Q → Is other)
    → Is one ↔ Q
through Is one other same to from = (λ is. to (subst Is same is), λ is. subst Is (sym same) (from is))

pub alike : {A : Type 0} (Is : A → Type 0) (one other : A) → one ≡ other → Is one ↔ Is other
alike Is one other same = (λ is. subst Is same is, λ is. subst Is (sym same) is)
