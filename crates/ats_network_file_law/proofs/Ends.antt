-- Which of two steps ended at a fault.
use Rattle.std.proofs.Common.{◌≡◌, ◌⊎◌, Result, Ok, Err, inl, inr, refl, ap}
use Rattle.ats_num.specs.Failure.{◌>>=◌}

-- the first went well, and the second ended at the fault
pub record Later {A B F : Type 0} (r : Result A F) (g : A → Result B F) (f : F) : Type 0 where
  pub value : A
  pub is : r ≡ Ok value
  pub then : g value ≡ Err f

pub ended : {A B F : Type 0} (r : Result A F) (g : A → Result B F) (f : F) → (r >>= g) ≡ Err f
    → (r ≡ Err f) ⊎ Later r g f
ended (Ok x) g f h = inr (record { value = x; is = refl; then = h })
ended (Err e) g f h =
    let same : e ≡ f = cc h in
    inl (ap Err same)

-- two steps and then a third, as one and then two
pub grouped : {A B C F : Type 0} (r : Result A F) (g : A → Result B F) (k : B → Result C F)
    → ((r >>= g) >>= k) ≡ (r >>= λ x. g x >>= k)
grouped (Ok x) g k = refl
grouped (Err e) g k = refl

-- a last step that changes nothing
pub unchanged : {A F : Type 0} (r : Result A F) → (r >>= λ x. Ok x) ≡ r
unchanged (Ok x) = refl
unchanged (Err e) = refl
