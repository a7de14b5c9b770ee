use Rattle.std.proofs.Common.{◌≡◌, Bool, true, false, Option, Some, None, Result, Ok, Err, refl}
use Rattle.ats_num.specs.Failure.{◌>>=◌, or_fault, ok_where, unless}

-- one after another: both steps went well
pub record Both {A B F : Type 0} (r : Result A F) (f : A → Result B F) (y : B) : Type 0 where
  pub first : A
  pub is : r ≡ Ok first
  pub then : f first ≡ Ok y

pub both : {A B F : Type 0} (r : Result A F) (f : A → Result B F) (y : B) → (r >>= f) ≡ Ok y → Both r f y
both (Err e) f y h = cc
both (Ok x) f y h = record { first = x; is = refl; then = h }

pub or_fault_ok : {A F : Type 0} (e : F) (o : Option A) (x : A) → or_fault e o ≡ Ok x → o ≡ Some x
or_fault_ok e None x h = cc
or_fault_ok e (Some y) x h = cc

-- the test passed, and the value is the one that was given
pub record Given {A : Type 0} (passes : Bool) (x y : A) : Type 0 where
  pub passed : passes ≡ true
  pub same : x ≡ y

pub ok_where_ok : {A F : Type 0} (passes : Bool) (e : F) (x y : A) → ok_where passes e x ≡ Ok y → Given passes x y
ok_where_ok true e x y h = record { passed = refl; same = cc }
ok_where_ok false e x y h = cc

-- no fault stood against it, and the value is the one that was given
pub record Sound {A F : Type 0} (fault : Option F) (x y : A) : Type 0 where
  pub none : fault ≡ None
  pub same : x ≡ y

pub unless_ok : {A F G : Type 0} (wrap : F → G) (fault : Option F) (x y : A) → unless wrap fault x ≡ Ok y
    → Sound fault x y
unless_ok wrap None x y h = record { none = refl; same = cc }
unless_ok wrap (Some e) x y h = cc
