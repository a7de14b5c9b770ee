use Rattle.ats_plain_document_law.proofs.SenderProofs.{senders_are_declared}
use Rattle.ats_plain_document_law.proofs.laws.senders_are_declared.Goals as goal

pub returns : goal.returns
returns c = senders_are_declared
