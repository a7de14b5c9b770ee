use Rattle.ats_plain_document_law.proofs.TableProofs.{tables_are_declared}
use Rattle.ats_plain_document_law.proofs.laws.tables_are_declared.Goals as goal

pub returns : goal.returns
returns c = tables_are_declared
