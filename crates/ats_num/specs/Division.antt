use Rattle.std.specs.Prelude.{ℕ, ◌+◌, ◌-◌, ◌*◌, ◌/◌, ◌≤◌}

-- q is n divided by d, rounded up: the least whole number that, taken d times, reaches n
pub record IsCeiling (n d q : ℕ) : Type 0 where
  pub reaches : n ≤ q * d
  pub least : (k : ℕ) → n ≤ k * d → q ≤ k

-- n divided by d, rounded up
abbrev pub ceiling : ℕ → ℕ → ℕ
ceiling n d = (n + (d - 1)) / d
