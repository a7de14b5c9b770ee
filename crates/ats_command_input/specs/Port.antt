use Rattle.std.specs.Prelude.{ℕ, List, ◌++◌, codes, Result}
use Rattle.ats_num.specs.Failure.{or_fault}
use Rattle.ats_topology.specs.Topology.{DeclaredTopology}
use Rattle.ats_port_names.specs.PortName.{port_named}
use Rattle.ats_command_input.specs.Answer.{Answer}
use Rattle.ats_command_input.specs.declared.status.Status.TheVariants.{Refused}

-- to a word that is the name of no port
abbrev pub port_answer : List ℕ → Answer
port_answer word = record { status = Refused; text = codes "refused port " ++ word ++ codes "\n" }

-- the port that a word names, or the answer where it names none
unfoldable pub port_in : DeclaredTopology → List ℕ → Result ℕ Answer
port_in topology word = or_fault (port_answer word) (port_named topology word)
