use Rattle.std.specs.Prelude.{All}
use Rattle.ats_topology.specs.Topology.{DeclaredTopology}
use Rattle.ats_tally.specs.Reason.{ReasonInside}
use Rattle.ats_requests.specs.declared.answer.Answer.{Answer}
use Rattle.ats_requests.specs.declared.answer.Answer.TheVariants.{Admitted, Withdrawn, Refused}
use Rattle.ats_requests.specs.declared.denied.Denied.{Denied}
use Rattle.ats_requests.specs.declared.denied.Denied.TheVariants.{NameTaken, NameUnknown, Limit, Because, NoClass}

-- the ports of the reasons for which nothing changed are ports of the topology
abbrev pub DeniedInside : DeclaredTopology → Denied → Type 0
DeniedInside topology NameTaken = Unit {0}
DeniedInside topology NameUnknown = Unit {0}
DeniedInside topology Limit = Unit {0}
DeniedInside topology (Because reason) = ReasonInside topology reason
DeniedInside topology (NoClass reasons) = All (ReasonInside topology) reasons

-- so are those of an answer
abbrev pub AnswerInside : DeclaredTopology → Answer → Type 0
AnswerInside topology (Admitted class sum) = Unit {0}
AnswerInside topology Withdrawn = Unit {0}
AnswerInside topology (Refused denied) = DeniedInside topology denied
