use Rattle.std.specs.Prelude.{◌≢◌, ℕ, ◌+◌, ◌<◌, ◌^◌, ◌==◌, Bool, true, false, if◌then◌else◌}
use Rattle.std.proofs.Common.{arith}
use Rattle.ats_num.specs.Tie.{AreDistinct, Ascends}

-- the frames of all other senders by ascending number, then those of the last sender by ascending number
abbrev pub last_key : ℕ → ℕ → ℕ → ℕ
last_key last sender frame = if sender == last then 2 ^ 32 + frame else frame

-- two numbers below 2 ^ 32 that differ stay different where 2 ^ 32 is added to either
apart : (b c : Bool) (frame next : ℕ) → frame < 2 ^ 32 → next < 2 ^ 32 → frame ≢ next
    → (if b then 2 ^ 32 + frame else frame) ≢ (if c then 2 ^ 32 + next else next)
apart true true frame next hf hn differ same = differ (omega arith)
apart true false frame next hf hn differ same = omega arith
apart false true frame next hf hn differ same = omega arith
apart false false frame next hf hn differ same = differ same

-- and keep their order where it is added to both
later : (b : Bool) (frame next : ℕ) → frame < next
    → (if b then 2 ^ 32 + frame else frame) < (if b then 2 ^ 32 + next else next)
later true frame next before = omega arith
later false frame next before = before

pub last_distinct : (last : ℕ) → AreDistinct (last_key last)
last_distinct last sender other frame next hs ho hf hn differ =
    apart (sender == last) (other == last) frame next hf hn differ

pub last_ascends : (last : ℕ) → Ascends (last_key last)
last_ascends last sender frame next hs hn before = later (sender == last) frame next before
