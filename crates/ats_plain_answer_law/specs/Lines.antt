use Rattle.std.specs.Prelude.{ℕ, List, ◌++◌, codes}
use Rattle.ats_command_input.specs.Answer.{Answer}
use Rattle.ats_command_input.specs.declared.status.Status.TheVariants.{Done, Input, Refused}

-- done, with this text
abbrev pub done_with : List ℕ → Answer
done_with text = record { status = Done; text = text }

-- refused, with the line `refused WHY`
abbrev pub refused_for : List ℕ → Answer
refused_for why = record { status = Refused; text = codes "refused " ++ why ++ codes "\n" }

-- a file is not taken, with the line `input FILE FAULT`
abbrev pub not_taken : List ℕ → List ℕ → Answer
not_taken file fault = record {
  status = Input;
  text = codes "input " ++ file ++ codes " " ++ fault ++ codes "\n";
}
