use Rattle.std.specs.Prelude.{◌≡◌, ◌↔◌, ℕ, ◌+◌, ◌-◌, ◌*◌, ◌%◌, ◌≤◌, bit_xor}
use Rattle.ats_num.specs.Pace.{drawn_wait}
use Rattle.ats_num.specs.Tie.{late_key, mixed_key}
use Rattle.ats_num.specs.Wire.{IsFrameSize}

-- the key by which a frame comes first or later of those that meet has its sender in the upper 32 bits, counted down
-- from 2^32 - 1 or after an exclusive or, and its own number in the lower ones; a frame's wait is what its number
-- leaves over, after an exclusive or, when divided by one more than the spread; and a frame has 64 to 2000 octets
pub record KeysAreGiven : Type 0 where
  pub late : (sender frame : ℕ) → late_key sender frame ≡ (4294967295 - sender) * 4294967296 + frame
  pub mixed : (n sender frame : ℕ) → mixed_key n sender frame ≡ bit_xor sender n * 4294967296 + frame
  pub wait : (n frame spread : ℕ) → drawn_wait n frame spread ≡ bit_xor frame n % (spread + 1)
  pub size : (octets : ℕ) → IsFrameSize octets ↔ ((64 ≤ octets) × (octets ≤ 2000))
