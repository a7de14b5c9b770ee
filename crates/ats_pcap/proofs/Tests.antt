use Rattle.std.proofs.Common.{◌≡◌, Result, Ok, Err, IsErrAnd, ap}

-- a value is Ok or Err as itself alone, and not both
pub same_Ok : {A F : Type 0} (a b : A) → (◌≡◌ {A = Result A F} (Ok a) (Ok b)) → a ≡ b
same_Ok a b h = cc

pub same_Err : {A F : Type 0} (a b : F) → (◌≡◌ {A = Result A F} (Err a) (Err b)) → a ≡ b
same_Err a b h = cc

pub Err-Ok : {A F : Type 0} (f : F) (a : A) → (◌≡◌ {A = Result A F} (Err f) (Ok a)) → ⊥
Err-Ok f a h = cc

-- what the exit of a `?` returns
pub err_is : {X F : Type 0} (result : Result X F) (failure : F) → IsErrAnd result (λ e. e ≡ failure)
    → result ≡ Err failure
err_is (Ok x) failure h = absurd h
err_is (Err e) failure h = ap Err h
