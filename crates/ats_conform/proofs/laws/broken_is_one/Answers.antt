use Rattle.ats_conform.proofs.OneBroken.{broken-one}
use Rattle.ats_conform.proofs.laws.broken_is_one.Goals as goal

pub returns : goal.returns
returns c = broken-one
