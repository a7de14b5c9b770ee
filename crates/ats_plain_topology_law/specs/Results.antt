use Rattle.std.specs.Prelude.{◌≡◌, ℕ, true, false, Option, Some, None, Result, Ok, Err, ok_or}
use Rattle.ats_num.specs.Failure.{◌>>=◌, ok_where, or_fault, unless}

-- a value stands where there is one, else the fault; so it does where a test passes, and where no fault stands against
-- it. One step follows another that gave a value, and a fault stays what it is. The words are for values and faults of
-- any type, which they cannot tell apart from numbers
pub record ResultsAreGiven : Type 0 where
  pub found : (fault : ℕ) (value : Option ℕ) → or_fault fault value ≡ ok_or value fault
  pub passes : (fault x : ℕ) → ok_where true fault x ≡ Ok x
  pub fails : (fault x : ℕ) → ok_where false fault x ≡ Err fault
  pub unopposed : (fault : ℕ → ℕ) (x : ℕ) → unless fault None x ≡ Ok x
  pub opposed : (fault : ℕ → ℕ) (f x : ℕ) → unless fault (Some f) x ≡ Err (fault f)
  pub goes_on : (x : ℕ) (f : ℕ → Result ℕ ℕ) → (Ok x >>= f) ≡ f x
  pub ends : (e : ℕ) (f : ℕ → Result ℕ ℕ) → (Err e >>= f) ≡ Err e
