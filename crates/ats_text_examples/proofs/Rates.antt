use Rattle.std.proofs.Common.{◌≡◌, ℕ, ◌*◌, Bool, true, false, cond, List, [], ◌∷◌, Some, refl, sym, ap, ◌∙◌, eqb}
use Rattle.std.specs.Map.{lookup}
use Rattle.std.specs.List.{list_all}
use Rattle.std.proofs.lemmas.Bool.{and_parts, eqb-true}
use Rattle.std.proofs.lemmas.Option.{none-some, same_Some}
use Rattle.ats_topology.specs.Rates.{link_rates}
use Rattle.ats_text_examples.specs.Ports.{RatesAreInverse}

-- A rate times the picoseconds of a bit.

is_inverse : ℕ × ℕ → Bool
is_inverse row = eqb (row.0 * row.1) 1000000

-- what is found in a table of inverses is an inverse
found_inverse : (rows : List (ℕ × ℕ)) (mbps ps : ℕ) → list_all is_inverse rows ≡ true
    → lookup (λ rate. eqb rate mbps) rows ≡ Some ps → mbps * ps ≡ 1000000
unfolding is_inverse
found_inverse [] mbps ps all h = absurd (none-some ps h)
found_inverse (row ∷ rows) mbps ps all h =
    let both = and_parts (is_inverse row) (list_all is_inverse rows) all in
    by (eqb row.0 mbps) refl h both.0 (found_inverse rows mbps ps both.1)
  where
    by : (b : Bool) → eqb row.0 mbps ≡ b → cond b (Some row.1) (lookup (λ rate. eqb rate mbps) rows) ≡ Some ps
        → is_inverse row ≡ true
        → (lookup (λ rate. eqb rate mbps) rows ≡ Some ps → mbps * ps ≡ 1000000) → mbps * ps ≡ 1000000
    by true e h one later =
        ap (λ (n : ℕ). n * ps) (sym (eqb-true row.0 mbps e))
        ∙ ap (λ (n : ℕ). row.0 * n) (sym (same_Some row.1 ps h))
        ∙ eqb-true (row.0 * row.1) 1000000 one
    by false e h one later = later h

pub rates_are_inverse : RatesAreInverse
unfolding is_inverse
rates_are_inverse mbps ps h = found_inverse link_rates mbps ps refl h
