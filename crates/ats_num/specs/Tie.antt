use Rattle.std.specs.Prelude.{◌≢◌, ℕ, ◌+◌, ◌-◌, ◌*◌, ◌<◌, ◌^◌, bit_xor}
use Rattle.std.proofs.Common.{arith}

-- no two frames share a key, even of different senders
abbrev pub AreDistinct : (ℕ → ℕ → ℕ) → Type 0
AreDistinct key = (sender other frame next : ℕ) → sender < 2 ^ 32 → other < 2 ^ 32 → frame < 2 ^ 32 → next < 2 ^ 32
    → frame ≢ next → key sender frame ≢ key other next

-- a sender's later frame has the greater key
abbrev pub Ascends : (ℕ → ℕ → ℕ) → Type 0
Ascends key = (sender frame next : ℕ) → sender < 2 ^ 32 → next < 2 ^ 32 → frame < next
    → key sender frame < key sender next

-- senders by descending number, then frames by ascending number
abbrev pub late_key : ℕ → ℕ → ℕ
late_key sender frame = (4294967295 - sender) * 2 ^ 32 + frame

-- senders by ascending number after an exclusive or with n, then frames by ascending number
abbrev pub mixed_key : ℕ → ℕ → ℕ → ℕ
mixed_key n sender frame = bit_xor sender n * 2 ^ 32 + frame

-- two numbers of which the lower 32 bits differ are different
apart : (high other low next : ℕ) → low < 2 ^ 32 → next < 2 ^ 32 → low ≢ next
    → high * 2 ^ 32 + low ≢ other * 2 ^ 32 + next
apart high other low next hl hn differ same = differ (omega arith)

pub late_distinct : AreDistinct late_key
late_distinct sender other frame next hs ho hf hn = apart (4294967295 - sender) (4294967295 - other) frame next hf hn

pub late_ascends : Ascends late_key
late_ascends sender frame next hs hn before = omega arith

pub mixed_distinct : (n : ℕ) → AreDistinct (mixed_key n)
mixed_distinct n sender other frame next hs ho hf hn = apart (bit_xor sender n) (bit_xor other n) frame next hf hn

pub mixed_ascends : (n : ℕ) → Ascends (mixed_key n)
mixed_ascends n sender frame next hs hn before = omega arith
