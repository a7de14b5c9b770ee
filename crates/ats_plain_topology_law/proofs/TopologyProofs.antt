use Rattle.std.proofs.Common.{◌≡◌, ℕ, ◌/◌, Bool, true, false, cond, List, [], ◌∷◌, map, Some, None, refl, ap, ◌∙◌, eqb}
use Rattle.std.specs.Prelude.{◌||◌}
use Rattle.std.specs.List.{list_all, list_any}
use Rattle.std.specs.Map.{lookup}
use Rattle.std.proofs.lemmas.Bool.{and_parts, eqb-true}
use Rattle.ats_topology.specs.Rates.{link_rates}
use Rattle.ats_plain_topology_law.specs.Topologies.{EndsAreGiven, LinksAreGiven, PartsAreGiven, TopologiesAreGiven}

-- Rates of links, and what topologies are made of.

is_quotient : ℕ × ℕ → Bool
is_quotient row = eqb row.1 (1000000 / row.0)

-- what is found in a table of quotients is a quotient, and what is found is listed
found_quotient : (rows : List (ℕ × ℕ)) (mbps : ℕ) → list_all is_quotient rows ≡ true
    → lookup (λ rate. eqb rate mbps) rows
    ≡ cond (list_any (λ rate. eqb rate mbps) (map (λ (row : ℕ × ℕ). row.0) rows)) (Some (1000000 / mbps)) None
unfolding is_quotient
found_quotient [] mbps all = refl
found_quotient (row ∷ rows) mbps all =
    let both = and_parts (is_quotient row) (list_all is_quotient rows) all in
    by (eqb row.0 mbps) refl both.0 (found_quotient rows mbps both.1)
  where
    by : (b : Bool) → eqb row.0 mbps ≡ b → is_quotient row ≡ true
        → lookup (λ rate. eqb rate mbps) rows
        ≡ cond (list_any (λ rate. eqb rate mbps) (map (λ (row : ℕ × ℕ). row.0) rows)) (Some (1000000 / mbps)) None
        → cond b (Some row.1) (lookup (λ rate. eqb rate mbps) rows)
        ≡ cond (b || list_any (λ rate. eqb rate mbps) (map (λ (row : ℕ × ℕ). row.0) rows)) (Some (1000000 / mbps)) None
    by true e one later =
        ap Some (eqb-true row.1 (1000000 / row.0) one ∙ ap (λ (n : ℕ). 1000000 / n) (eqb-true row.0 mbps e))
    by false e one later = later

links : LinksAreGiven
unfolding is_quotient
links = record {
  rates = λ mbps. found_quotient link_rates mbps refl;
  ends = λ name link. refl;
}

parts : PartsAreGiven
parts = record {
  nodes = λ nodes links. refl;
  links = λ nodes links. refl;
  ports = λ nodes links. refl;
}

ends : EndsAreGiven
ends = record { node = refl; link = refl; port = refl }

pub topologies_are_given : TopologiesAreGiven
topologies_are_given = record { links = links; parts = parts; ends = ends }
