use Rattle.std.specs.Prelude.{◌≡◌, ℕ, ◌+◌, ◌-◌, ◌^◌, ◌<◌, ◌≤◌, false, max, List, filter, fold, Some, if◌then◌else◌}
use Rattle.ats_class_table.specs.Table.{Table, value_at}
use Rattle.ats_buffer.specs.Moments.{is_of}
use Rattle.ats_buffer.specs.declared.levels.Level.{Level}
use Rattle.ats_buffer.specs.declared.moments.Moment.{Moment}

-- nothing has come yet
abbrev pub no_level : Level
no_level = record { held = 0; peak = 0 }

-- what is held after a moment
abbrev pub level_after : Level → Moment → Level
level_after level m =
    if m.comes then record { held = level.held + m.bits; peak = max level.peak (level.held + m.bits) }
    else record { held = level.held - m.bits; peak = level.peak }

-- what comes leaves a number of 64 bits, and no more ends than is held
pub record IsNext (level : Level) (m : Moment) : Type 0 where
  pub fits : level.held + m.bits < 2 ^ 64
  pub there : m.comes ≡ false → m.bits ≤ level.held

-- after moments, one after another
abbrev pub level_of : List Moment → Level
level_of moments = fold level_after no_level moments

-- a table has, for each port, of so many, and each class, what is held there after these moments
pub record AreLevels (ports : ℕ) (moments : List Moment) (table : Table Level) : Type 0 where
  pub count : table.ports ≡ ports
  pub each : (port class : ℕ) → port < ports → class ≤ 7
      → value_at table port class ≡ Some (level_of (filter (is_of port class) moments))
