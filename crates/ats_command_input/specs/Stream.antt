use Rattle.std.specs.Prelude.{ℕ, List, ◌++◌, codes, Option, Result}
use Rattle.std.specs.List.{position_from}
use Rattle.std.specs.Str.{bytes_eq}
use Rattle.ats_num.specs.Failure.{or_fault}
use Rattle.ats_streams.specs.Stream.{DeclaredStream}
use Rattle.ats_command_input.specs.Answer.{Answer}
use Rattle.ats_command_input.specs.declared.status.Status.TheVariants.{Refused}

-- the number of the stream with this name, if there is one
abbrev pub stream_named : List DeclaredStream → List ℕ → Option ℕ
stream_named streams word = position_from (λ (stream : DeclaredStream). bytes_eq stream.name word) 0 streams

-- to a word that is the name of no stream
abbrev pub stream_answer : List ℕ → Answer
stream_answer word = record { status = Refused; text = codes "refused stream " ++ word ++ codes "\n" }

-- the stream that a word names, or the answer where it names none
unfoldable pub stream_in : List DeclaredStream → List ℕ → Result ℕ Answer
stream_in streams word = or_fault (stream_answer word) (stream_named streams word)
