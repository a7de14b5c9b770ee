use Rattle.std.specs.Prelude.{ℕ}

-- one transmission of a port: a frame by its number, its sender, its class from 0 to 7, its wire bits, the time from
-- which it was eligible, and the times at which it started and ended, in picoseconds
pub record Transmission : Type 0 where
  pub frame : ℕ
  pub sender : ℕ
  pub class : ℕ
  pub bits : ℕ
  pub eligible : ℕ
  pub start : ℕ
  pub end : ℕ
