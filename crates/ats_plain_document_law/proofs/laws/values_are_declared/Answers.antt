use Rattle.ats_plain_document_law.proofs.ValueProofs.{values_are_declared}
use Rattle.ats_plain_document_law.proofs.laws.values_are_declared.Goals as goal

pub returns : goal.returns
returns c = values_are_declared
