-- What is so of each element is so of the first that breaks a rule, and a test that gives a value where it fails.
use Rattle.std.proofs.Common.{◌≡◌, Bool, true, false, cond, List, ◌∷◌, ◌++◌, Option, Some, None, refl, sym, subst}
use Rattle.std.specs.List.{All}
use Rattle.std.specs.Option.{option_or}
use Rattle.std.proofs.lemmas.List.Elements.{All-head}
use Rattle.std.proofs.lemmas.Option.{none-some, same_Some}
use Rattle.ats_facts.proofs.Lists.{all_right}
use Rattle.ats_bound.specs.First.{IsFirstBreach}

-- what is so of each is so of the first that breaks a rule
pub breach_keeps : {A : Type 0} (Rule P : A → Type 0) (xs : List A) (x : A) → All P xs → IsFirstBreach Rule xs x → P x
breach_keeps {A} Rule P xs x all first =
    let split : All P (first.before ++ x ∷ first.after) = subst (λ (ys : List A). All P ys) (sym first.cut) all in
    All-head P x first.after (all_right P first.before (x ∷ first.after) split)

-- a search behind which nothing is searched
pub or_none : {B : Type 0} (o : Option B) → option_or o None ≡ o
or_none None = refl
or_none (Some x) = refl

-- a value that a test gives where it fails
pub if_false : {B : Type 0} (P : B → Type 0) (t : Bool) (x found : B) → (t ≡ false → P x)
    → cond t None (Some x) ≡ Some found → P found
if_false P true x found p h = absurd (none-some found h)
if_false P false x found p h = subst P (same_Some x found h) (p refl)

pub false_if : {B : Type 0} (t : Bool) (x : B) → (cond t None (Some x) ≡ None → ⊥) → cond t None (Some x) ≡ Some x
false_if true x h = absurd (h refl)
false_if false x h = refl
