use Rattle.std.proofs.Common.{◌≡◌, ℕ, zero, suc, ◌+◌, ◌-◌, ◌<◌, Bool, true, false, cond, Option, Some, None, refl}
use Rattle.std.proofs.Common.{ap, ◌∙◌, arith, add-one, ⊎_elim}
use Rattle.std.specs.Option.{option_or}
use Rattle.std.proofs.lemmas.Bool.{cases_eq}
use Rattle.ats_facts.proofs.Options.{option_or-none, cond-none}
use Rattle.ats_topology.specs.Faults.{first_below}

-- where no number below i passes and i does not, none below i + 1 passes
pub first_below-none : (t : ℕ → Bool) (i : ℕ) → first_below t i ≡ None → t i ≡ false → first_below t (i + 1) ≡ None
first_below-none t i none fails = ap (first_below t) (add-one i)
    ∙ ap (λ (o : Option ℕ). option_or o (cond (t i) (Some i) None)) none ∙ ap (λ (b : Bool). cond b (Some i) None) fails

kept : (t : ℕ → Bool) (n k : ℕ) → first_below t n ≡ Some k → first_below t (suc n) ≡ Some k
kept t n k found = ap (λ (o : Option ℕ). option_or o (cond (t n) (Some n) None)) found

-- what is found below i is found below each greater number
stays : (t : ℕ → Bool) (i d n k : ℕ) → n ≡ d + i → first_below t i ≡ Some k → first_below t n ≡ Some k
stays t i zero n k sum found = let same : n ≡ i = omega arith in ap (first_below t) same ∙ found
stays t i (suc d) n k sum found = let same : n ≡ suc (d + i) = omega arith in
    ap (first_below t) same ∙ kept t (d + i) k (stays t i d (d + i) k refl found)

-- where no number below i passes and i does, i is the least below n that passes
pub first_below-some : (t : ℕ → Bool) (i n : ℕ) → first_below t i ≡ None → t i ≡ true → i < n → first_below t n ≡ Some i
first_below-some t i n none passes below =
    let here : first_below t (suc i) ≡ Some i = ap (λ (o : Option ℕ). option_or o (cond (t i) (Some i) None)) none
    ∙ ap (λ (b : Bool). cond b (Some i) None) passes in
    stays t (suc i) (n - suc i) n i (omega arith) here

-- where no number below n passes, each fails
pub none_below : (t : ℕ → Bool) (n k : ℕ) → first_below t n ≡ None → k < n → t k ≡ false
none_below t zero k none below = absurd (omega arith)
none_below t (suc n) k none below =
    let parts : (first_below t n ≡ None) × (cond (t n) (Some n) None ≡ None) =
    option_or-none (first_below t n) (cond (t n) (Some n) None) none in
    ⊎_elim (λ h. ap t h ∙ cond-none (t n) n parts.1) (λ h. none_below t n k parts.0 (omega arith)) (cases_eq k n)
