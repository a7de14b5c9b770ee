use Rattle.std.specs.Prelude.{ℕ, List, ◌++◌, length, codes, decimal}
use Rattle.std.specs.List.{flat_map, enumerate_from, zip}
use Rattle.ats_topology.specs.Topology.{DeclaredTopology}
use Rattle.ats_network.specs.Network.{DeclaredNetwork}
use Rattle.ats_tally.specs.declared.reason.Reason.{Reason}
use Rattle.ats_verdict_text.specs.Text.{reason_text}
use Rattle.ats_requests.specs.Requests.{answers, after_all}
use Rattle.ats_requests.specs.declared.answer.Answer.{Answer}
use Rattle.ats_requests.specs.declared.answer.Answer.TheVariants.{Admitted, Withdrawn, Refused}
use Rattle.ats_requests.specs.declared.denied.Denied.{Denied}
use Rattle.ats_requests.specs.declared.denied.Denied.TheVariants.{NameTaken, NameUnknown, Limit, Because, NoClass}
use Rattle.ats_requests.specs.declared.request.Request.{Request}
use Rattle.ats_requests.specs.declared.request.Request.TheVariants.{Admit, Lowest, Withdraw}

-- the name of the stream that a request is about
abbrev pub name_asked : Request → List ℕ
name_asked (Admit stream) = stream.name
name_asked (Lowest stream) = stream.name
name_asked (Withdraw name) = name

-- ` CLASS SUM` of a stream that came in
unfoldable pub given_text : ℕ → ℕ → List ℕ
given_text class sum = codes " " ++ decimal class ++ codes " " ++ decimal sum ++ codes "\n"

-- ` REASON`
unfoldable pub reason_end : DeclaredTopology → Reason → List ℕ
reason_end topology reason = codes " " ++ reason_text topology reason ++ codes "\n"

-- `class N REASON`
abbrev pub class_line : DeclaredTopology → ℕ × Reason → List ℕ
class_line topology numbered = codes "class " ++ decimal numbered.0 ++ reason_end topology numbered.1

-- such a line for each class, from 1 on
abbrev pub class_lines : DeclaredTopology → List Reason → List ℕ
class_lines topology reasons = flat_map (class_line topology) (enumerate_from 1 reasons)

-- why nothing changed; behind ` no-class` a line for each class
abbrev pub denied_text : DeclaredTopology → Denied → List ℕ
denied_text topology NameTaken = codes " name-taken\n"
denied_text topology NameUnknown = codes " name-unknown\n"
denied_text topology Limit = codes " limit\n"
denied_text topology (Because reason) = reason_end topology reason
denied_text topology (NoClass reasons) = codes " no-class\n" ++ class_lines topology reasons

-- an answer about the stream of a name: `admitted NAME CLASS SUM`, `withdrawn NAME`, or `denied NAME` and why
abbrev pub answer_text : DeclaredTopology → List ℕ → Answer → List ℕ
answer_text topology name (Admitted class sum) = codes "admitted " ++ name ++ given_text class sum
answer_text topology name Withdrawn = codes "withdrawn " ++ name ++ codes "\n"
answer_text topology name (Refused denied) = codes "denied " ++ name ++ denied_text topology denied

-- the text of each request's answer
abbrev pub lines_of : DeclaredTopology → List Request → List Answer → List ℕ
lines_of topology requests given =
    flat_map (λ (pair : Request × Answer). answer_text topology (name_asked pair.0) pair.1) (zip requests given)

-- what a network answers to requests, one after the other
abbrev pub answers_text : DeclaredNetwork → List Request → List ℕ
answers_text network requests = lines_of network.topology requests (answers network requests)

-- and then `streams N`, the number of streams at the end
abbrev pub admission_text : DeclaredNetwork → List Request → List ℕ
admission_text network requests =
    answers_text network requests ++ codes "streams " ++ decimal (length (after_all network requests).streams)
    ++ codes "\n"
