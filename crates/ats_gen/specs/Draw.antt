use Rattle.std.specs.Prelude.{ℕ, zero, suc, ◌+◌, ◌*◌, ◌/◌, ◌%◌, ◌^◌}
use Rattle.ats_gen.specs.declared.draws.TheConstants.{FACTOR, STEP}

-- the state of the generator after one draw
abbrev pub next_state : ℕ → ℕ
next_state state = (state * FACTOR + STEP) % 2 ^ 64

-- what a draw gives, which left the generator at this state
abbrev pub drawn : ℕ → ℕ
drawn state = state / 2 ^ 33

-- the state after so many draws
abbrev pub state_after : ℕ → ℕ → ℕ
state_after seed zero = seed
state_after seed (suc n) = next_state (state_after seed n)

-- what the draw with this number gives, counted from 0
abbrev pub draw : ℕ → ℕ → ℕ
draw seed n = drawn (state_after seed (n + 1))
