use Rattle.std.proofs.Common.{◌≡◌, Bool, true, false, cond, Option, Some, None, refl, sym}
use Rattle.std.specs.Prelude.{is_some}
use Rattle.std.specs.Option.{option_or}
use Rattle.std.proofs.lemmas.Bool.{true≢false}
use Rattle.std.proofs.lemmas.Option.{none-some}

-- what has no value is None
pub is_some-false : {X : Type 0} (o : Option X) → is_some o ≡ false → o ≡ None
is_some-false None h = refl
is_some-false (Some x) h = absurd (true≢false h)

-- a value, where there is one, and else none, is what it was
pub cond-is_some : {X : Type 0} (o : Option X) → cond (is_some o) o None ≡ o
cond-is_some None = refl
cond-is_some (Some x) = refl

-- where a test gives no value, it failed
pub cond-none : {X : Type 0} (b : Bool) (x : X) → cond b (Some x) None ≡ None → b ≡ false
cond-none true x h = absurd (none-some x (sym h))
cond-none false x h = refl

-- where neither of two gives a value, both are None
pub option_or-none : {X : Type 0} (a b : Option X) → option_or a b ≡ None → (a ≡ None) × (b ≡ None)
option_or-none None b h = (refl, h)
option_or-none (Some x) b h = absurd (none-some x (sym h))
