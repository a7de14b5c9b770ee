use Rattle.ats_schedulers.proofs.Places.{schedulers_are_apart}
use Rattle.ats_schedulers.proofs.laws.schedulers_are_apart.Goals as goal

pub returns : goal.returns
returns c = schedulers_are_apart
