use Rattle.std.specs.Prelude.{ℕ, List, drop}
use Rattle.std.specs.Int.{w16, w32, w64, to_le_bytes, to_be_bytes}

-- a number of 16 or 32 bits in its bytes, the lowest first: so a capture writes its own numbers
unfoldable pub low_first16 : ℕ → List ℕ
low_first16 n = to_le_bytes w16 n

unfoldable pub low_first32 : ℕ → List ℕ
low_first32 n = to_le_bytes w32 n

-- a number of 16, 32 or 48 bits in its bytes, the highest first: so a frame has them
unfoldable pub high_first16 : ℕ → List ℕ
high_first16 n = to_be_bytes w16 n

unfoldable pub high_first32 : ℕ → List ℕ
high_first32 n = to_be_bytes w32 n

unfoldable pub high_first48 : ℕ → List ℕ
high_first48 n = drop 2 (to_be_bytes w64 n)
