use Rattle.ats_plain_document_law.proofs.DocumentProofs.{documents_are_declared}
use Rattle.ats_plain_document_law.proofs.laws.documents_are_declared.Goals as goal

pub returns : goal.returns
returns c = documents_are_declared
