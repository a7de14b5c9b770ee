use Rattle.ats_plain_document_law.proofs.NetworkProofs.{networks_are_declared}
use Rattle.ats_plain_document_law.proofs.laws.networks_are_declared.Goals as goal

pub returns : goal.returns
returns c = networks_are_declared
