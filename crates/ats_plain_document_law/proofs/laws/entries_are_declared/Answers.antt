use Rattle.ats_plain_document_law.proofs.EntryProofs.{entries_are_declared}
use Rattle.ats_plain_document_law.proofs.laws.entries_are_declared.Goals as goal

pub returns : goal.returns
returns c = entries_are_declared
