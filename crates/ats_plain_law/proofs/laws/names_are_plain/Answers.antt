use Rattle.ats_plain_law.proofs.NameProofs.{names_are_plain}
use Rattle.ats_plain_law.proofs.laws.names_are_plain.Goals as goal

pub returns : goal.returns
returns c = names_are_plain
