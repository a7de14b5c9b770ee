-- A step of a deficit, with plain numbers: `rt` and `ra` are what the rate gives until a frame and until the last one,
-- `mb` and `ms` the bits before that frame and of all, and a frame of `mx` comes once the rate gave `g` more.
use Rattle.std.proofs.Common.{◌≡◌, ℕ, ◌+◌, ◌-◌, ◌<◌, ◌≤◌, arith}

-- what bounded the deficit since a frame bounds it still
pub bound-old : (rt mb ra ms l g mx : ℕ) → rt + ms ≤ ra + l + mb → rt + (ms + mx) ≤ ra + g + (l - g + mx) + mb
bound-old rt mb ra ms l g mx h = omega arith

-- and since the last one it is that frame's bits at least
pub bound-new : (ra ms l g mx : ℕ) → ra + g + (ms + mx) ≤ ra + g + (l - g + mx) + ms
bound-new ra ms l g mx = omega arith

-- what reached the deficit reaches it still where the rate gave less
pub reached-old : (rt mb ra ms l g mx : ℕ) → g < l → rt + ms ≡ ra + l + mb
    → rt + (ms + mx) ≡ ra + g + (l - g + mx) + mb
reached-old rt mb ra ms l g mx less h = omega arith

-- else the last frame reaches it
pub reached-new : (ra ms l g mx : ℕ) → l ≤ g → ra + g + (ms + mx) ≡ ra + g + (l - g + mx) + ms
reached-new ra ms l g mx full = omega arith
