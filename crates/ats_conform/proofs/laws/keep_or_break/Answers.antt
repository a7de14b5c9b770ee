use Rattle.ats_conform.proofs.Either.{keep-or_break}
use Rattle.ats_conform.proofs.laws.keep_or_break.Goals as goal

pub returns : goal.returns
returns c = keep-or_break
