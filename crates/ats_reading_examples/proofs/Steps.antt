-- Steps of a reader that went well.
use Rattle.std.proofs.Common.{◌≡◌, Bool, true, false, Option, Some, None, Result, Ok, Err, refl}
use Rattle.ats_num.specs.Failure.{◌>>=◌, ok_where, or_fault, unless}

-- one after another: both went well
pub record Both {A B F : Type 0} (r : Result A F) (f : A → Result B F) (y : B) : Type 0 where
  pub first : A
  pub is : r ≡ Ok first
  pub then : f first ≡ Ok y

pub both : {A B F : Type 0} (r : Result A F) (f : A → Result B F) (y : B) → (r >>= f) ≡ Ok y → Both r f y
both (Err e) f y h = cc
both (Ok x) f y h = record { first = x; is = refl; then = h }

pub given : {A F : Type 0} (e : F) (o : Option A) (x : A) → or_fault e o ≡ Ok x → o ≡ Some x
given e None x h = cc
given e (Some y) x h = cc

pub passed : {A F : Type 0} (passes : Bool) (e : F) (x y : A) → ok_where passes e x ≡ Ok y → x ≡ y
passed true e x y h = cc
passed false e x y h = cc

pub kept : {A F G : Type 0} (wrap : F → G) (fault : Option F) (x y : A) → unless wrap fault x ≡ Ok y → x ≡ y
kept wrap None x y h = cc
kept wrap (Some e) x y h = cc

-- a step that gave a value gave that one
pub same_value : {A F : Type 0} (x y : A) → (let r : Result A F = Ok x in r) ≡ Ok y → x ≡ y
same_value x y h = cc
