use Rattle.ats_plain_law.proofs.FormatProofs.{formats_are_plain}
use Rattle.ats_plain_law.proofs.laws.formats_are_plain.Goals as goal

pub returns : goal.returns
returns c = formats_are_plain
