use Rattle.std.specs.Prelude.{ℕ}
use Rattle.ats_command_input.specs.declared.status.Status.{Status}
use Rattle.ats_command_input.specs.declared.status.Status.TheVariants.{Done, Words, Input, Refused, ReadFailed}
use Rattle.ats_command_input.specs.declared.status.Status.TheVariants.{WriteFailed}
use Rattle.ats_command_input.specs.declared.status.Status.TheVariants.{NoMemory}

-- the program's exit code
abbrev pub code_of : Status → ℕ
code_of Done = 0
code_of Words = 1
code_of Input = 2
code_of Refused = 3
code_of ReadFailed = 4
code_of WriteFailed = 5
code_of NoMemory = 6
