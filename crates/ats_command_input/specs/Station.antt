use Rattle.std.specs.Prelude.{ℕ, List, ◌++◌, codes, Result}
use Rattle.ats_num.specs.Failure.{or_fault}
use Rattle.ats_topology.specs.Topology.{DeclaredTopology, station_named}
use Rattle.ats_command_input.specs.Answer.{Answer}
use Rattle.ats_command_input.specs.declared.status.Status.TheVariants.{Refused}

-- to a word that is the name of no station
abbrev pub station_answer : List ℕ → Answer
station_answer word = record { status = Refused; text = codes "refused station " ++ word ++ codes "\n" }

-- the station that a word names, or the answer where it names none
unfoldable pub station_in : DeclaredTopology → List ℕ → Result ℕ Answer
station_in topology word = or_fault (station_answer word) (station_named topology word)
