use Rattle.ats_plain_document_law.proofs.KeyProofs.{keys_are_due}
use Rattle.ats_plain_document_law.proofs.laws.keys_are_due.Goals as goal

pub returns : goal.returns
returns c = keys_are_due
