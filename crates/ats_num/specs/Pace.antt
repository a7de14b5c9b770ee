use Rattle.std.specs.Prelude.{ℕ, ◌+◌, ◌<◌, ◌≤◌, ◌^◌, ◌%◌, bit_xor}
use Rattle.std.proofs.Common.{arith}
use Rattle.std.proofs.lemmas.Nat.{mod_below}
use Rattle.ats_num.specs.declared.pace.TheConstants.{MAX_SPREAD}

-- no frame waits longer than the spread
abbrev pub WaitsWithin : (ℕ → ℕ → ℕ) → Type 0
WaitsWithin wait = (frame spread : ℕ) → frame < 2 ^ 32 → spread ≤ MAX_SPREAD → wait frame spread ≤ spread

-- a wait drawn from 0 to the spread by the frame's number, after an exclusive or with n
abbrev pub drawn_wait : ℕ → ℕ → ℕ → ℕ
drawn_wait n frame spread = bit_xor frame n % (spread + 1)

pub least_within : WaitsWithin (λ frame spread. 0)
least_within frame spread hf hs = omega arith

pub greatest_within : WaitsWithin (λ frame spread. spread)
greatest_within frame spread hf hs = omega arith

pub drawn_within : (n : ℕ) → WaitsWithin (drawn_wait n)
drawn_within n frame spread hf hs = omega (arith, mod_below (bit_xor frame n) (spread + 1))
