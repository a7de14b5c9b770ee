use Rattle.ats_plain_document_law.proofs.RouteProofs.{routes_are_declared}
use Rattle.ats_plain_document_law.proofs.laws.routes_are_declared.Goals as goal

pub returns : goal.returns
returns c = routes_are_declared
