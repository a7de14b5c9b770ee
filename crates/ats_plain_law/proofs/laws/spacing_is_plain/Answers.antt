use Rattle.ats_plain_law.proofs.SpacingProofs.{spacing_is_plain}
use Rattle.ats_plain_law.proofs.laws.spacing_is_plain.Goals as goal

pub returns : goal.returns
returns c = spacing_is_plain
