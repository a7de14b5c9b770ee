use Rattle.std.specs.Prelude.{ℕ, nat_lt, ◌||◌, List, Option, Some, None, if◌then◌else◌}
use Rattle.std.specs.Option.{option_and_then}
use Rattle.ats_num.specs.Number.{number_of}
use Rattle.ats_trace.specs.declared.run.TheConstants.{MAX_FRAMES}
use Rattle.ats_command_input.specs.declared.making.TheConstants.{MAX_SEED}

-- a seed, which is below 2 ^ 64
abbrev pub seed_by : ℕ → Option ℕ
seed_by n = if nat_lt MAX_SEED n then None else Some n

-- the seed that a word names, if it names one
abbrev pub seed_named : List ℕ → Option ℕ
seed_named word = option_and_then seed_by (number_of word)

-- so many frames, where they may be made: at least one, and not more than a run may have
abbrev pub count_by : ℕ → Option ℕ
count_by n = if nat_lt n 1 || nat_lt MAX_FRAMES n then None else Some n

-- the number of frames that a word names, if it names one that may be made
abbrev pub count_named : List ℕ → Option ℕ
count_named word = option_and_then count_by (number_of word)
