use Rattle.std.specs.Prelude.{ℕ, ◌≤◌, ◌==◌, List, [], ◌∷◌, Option, IsTrue}
use Rattle.std.specs.List.{list_any}
use Rattle.std.specs.Map.{lookup}

-- the rates that a link may have, in megabits per second, each with the picoseconds that one bit takes
abbrev pub link_rates : List (ℕ × ℕ)
link_rates =
    (10, 100000) ∷ (100, 10000) ∷ (1000, 1000) ∷ (2500, 400) ∷ (5000, 200)
    ∷ (10000, 100) ∷ (25000, 40) ∷ (40000, 25) ∷ (50000, 20) ∷ (100000, 10) ∷ []

-- the picoseconds that one bit takes at a rate, if a link may have it
abbrev pub ps_per_bit_of : ℕ → Option ℕ
ps_per_bit_of mbps = lookup (λ rate. rate == mbps) link_rates

-- a value of that table, so at least 10
pub record IsPsPerBit (ps : ℕ) : Type 0 where
  pub tabled : IsTrue (list_any (λ (row : ℕ × ℕ). row.1 == ps) link_rates)
  pub least : 10 ≤ ps
  pub most : ps ≤ 100000
