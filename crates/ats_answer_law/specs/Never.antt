use Rattle.ats_command_input.specs.declared.status.Status.{Status}
use Rattle.ats_command_input.specs.declared.status.Status.TheVariants.{NoMemory, ReadFailed, Words, WriteFailed}

-- an answer of which this is said, by its status, has none of these four
abbrev pub NeverCome : (Status → Type 0) → Type 0
NeverCome Says = (¬ Says Words) × (¬ Says ReadFailed) × (¬ Says WriteFailed) × (¬ Says NoMemory)
