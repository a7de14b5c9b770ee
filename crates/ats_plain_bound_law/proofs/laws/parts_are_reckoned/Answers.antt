use Rattle.ats_plain_bound_law.proofs.PartProofs.{parts_are_reckoned}
use Rattle.ats_plain_bound_law.proofs.laws.parts_are_reckoned.Goals as goal

pub returns : goal.returns
returns c = parts_are_reckoned
