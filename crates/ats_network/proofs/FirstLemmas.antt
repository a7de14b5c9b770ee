use Rattle.std.proofs.Common.{◌≡◌, ℕ, zero, suc, ◌<◌, cond, List, [], ◌∷◌, Option, Some, None, refl, sym, ap, ◌∙◌}
use Rattle.std.proofs.Common.{arith, ⊎_elim}
use Rattle.std.specs.Prelude.{is_some}
use Rattle.std.specs.List.{find}
use Rattle.std.specs.Option.{option_or}
use Rattle.std.proofs.lemmas.Bool.{cases_eq}
use Rattle.std.proofs.lemmas.Option.{none-some}
use Rattle.ats_network.specs.Shortest.{first_along, first_of}

-- the first number for which a function gives a value, and the value
pub record IsFirst (given : ℕ → Option (List ℕ)) (numbers : List ℕ) (value : List ℕ) : Type 0 where
  pub number : ℕ
  pub found : find (λ p. is_some (given p)) numbers ≡ Some number
  pub gives : given number ≡ Some value

pub first_along-some : (given : ℕ → Option (List ℕ)) (numbers : List ℕ) (value : List ℕ)
    → first_along given numbers ≡ Some value → IsFirst given numbers value
first_along-some given [] value h = absurd (none-some value h)
first_along-some given (p ∷ numbers) value h = by (given p) refl h (first_along-some given numbers value)
  where
    by : (o : Option (List ℕ)) → given p ≡ o → option_or o (first_along given numbers) ≡ Some value
        → (first_along given numbers ≡ Some value → IsFirst given numbers value) → IsFirst given (p ∷ numbers) value
    by None e h more =
        let f : IsFirst given numbers value = more h in
        record {
          number = f.number;
          found = ap (λ (o : Option (List ℕ)). cond (is_some o) (Some p) (find (λ q. is_some (given q)) numbers)) e
              ∙ f.found;
          gives = f.gives;
        }
    by (Some found) e h more = record {
      number = p;
      found = ap (λ (o : Option (List ℕ)). cond (is_some o) (Some p) (find (λ q. is_some (given q)) numbers)) e;
      gives = e ∙ h;
    }

pub first_along-none : (given : ℕ → Option (List ℕ)) (numbers : List ℕ) → first_along given numbers ≡ None
    → find (λ p. is_some (given p)) numbers ≡ None
first_along-none given [] h = refl
first_along-none given (p ∷ numbers) h = by (given p) refl h (first_along-none given numbers)
  where
    by : (o : Option (List ℕ)) → given p ≡ o → option_or o (first_along given numbers) ≡ None
        → (first_along given numbers ≡ None → find (λ q. is_some (given q)) numbers ≡ None)
        → find (λ q. is_some (given q)) (p ∷ numbers) ≡ None
    by None e h more =
        ap (λ (o : Option (List ℕ)). cond (is_some o) (Some p) (find (λ q. is_some (given q)) numbers)) e ∙ more h
    by (Some found) e h more = absurd (none-some found (sym h))

-- the least number below n for which a function gives a value, and the value
pub record IsLeastOf (given : ℕ → Option (List ℕ)) (n : ℕ) (value : List ℕ) : Type 0 where
  pub number : ℕ
  pub below : number < n
  pub gives : given number ≡ Some value
  pub before : (k : ℕ) → k < number → given k ≡ None

pub first_of-none : (given : ℕ → Option (List ℕ)) (n : ℕ) → first_of given n ≡ None → (k : ℕ) → k < n → given k ≡ None
first_of-none given zero h k below = absurd (omega arith)
first_of-none given (suc n) h k below = by (first_of given n) refl h (λ e. first_of-none given n e k)
  where
    by : (o : Option (List ℕ)) → first_of given n ≡ o → option_or o (given n) ≡ None
        → (first_of given n ≡ None → k < n → given k ≡ None) → given k ≡ None
    by None e h more = ⊎_elim (λ same. ap given same ∙ h) (λ ne. more e (omega arith)) (cases_eq k n)
    by (Some found) e h more = absurd (none-some found (sym h))

pub first_of-some : (given : ℕ → Option (List ℕ)) (n : ℕ) (value : List ℕ) → first_of given n ≡ Some value
    → IsLeastOf given n value
first_of-some given zero value h = absurd (none-some value h)
first_of-some given (suc n) value h = by (first_of given n) refl h (first_of-some given n value)
  where
    by : (o : Option (List ℕ)) → first_of given n ≡ o → option_or o (given n) ≡ Some value
        → (first_of given n ≡ Some value → IsLeastOf given n value) → IsLeastOf given (suc n) value
    by None e h more = record { number = n; below = omega arith; gives = h; before = first_of-none given n e }
    by (Some found) e h more =
        let l : IsLeastOf given n value = more (e ∙ h) in
        record { number = l.number; below = omega (arith, l.below); gives = l.gives; before = l.before }
