use Rattle.ats_conform.proofs.Prefix.{one-breaks}
use Rattle.ats_conform.proofs.laws.one_breaks_all.Goals as goal

pub returns : goal.returns
returns c = one-breaks
