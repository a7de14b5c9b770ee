use Rattle.std.specs.Prelude.{ℕ, List, ◌++◌, codes, Result, Ok, Err}
use Rattle.ats_command_input.specs.declared.status.Status.{Status}
use Rattle.ats_command_input.specs.declared.status.Status.TheVariants.{Done, Words, Input, Refused, ReadFailed}
use Rattle.ats_command_input.specs.declared.status.Status.TheVariants.{WriteFailed}
use Rattle.ats_command_input.specs.declared.status.Status.TheVariants.{NoMemory}

-- how a call ends, and what it prints
pub record Answer : Type 0 where
  pub status : Status
  pub text : List ℕ

-- to words that are not in the command table
abbrev pub words_answer : Answer
words_answer = record { status = Words; text = codes "words\n" }

-- the line for a file with a fault
abbrev pub input_text : List ℕ → List ℕ → List ℕ
input_text file fault = codes "input " ++ file ++ codes " " ++ fault ++ codes "\n"

-- to a file with a fault
abbrev pub input_answer : List ℕ → List ℕ → Answer
input_answer file fault = record { status = Input; text = input_text file fault }

-- a command that is carried out is done, and prints its text; another answer may come before that
abbrev pub settled : Result (List ℕ) Answer → Answer
settled (Ok text) = record { status = Done; text = text }
settled (Err answer) = answer

-- a call that ends so has printed a text, whole
abbrev pub HasText : Status → Type 0
HasText Done = Unit {0}
HasText Words = Unit {0}
HasText Input = Unit {0}
HasText Refused = Unit {0}
HasText ReadFailed = ⊥
HasText WriteFailed = ⊥
HasText NoMemory = ⊥
