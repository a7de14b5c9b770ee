use Rattle.std.specs.Prelude.{ℕ, ◌≤◌}

-- a committed rate in bits per second: at least one bit, at most 100 Gb/s
pub record IsRate (bps : ℕ) : Type 0 where
  pub positive : 1 ≤ bps
  pub within : bps ≤ 100000000000
