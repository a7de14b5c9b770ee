use Rattle.ats_plain_network_law.proofs.SchedulerProofs.{schedulers_are_known}
use Rattle.ats_plain_network_law.proofs.laws.schedulers_are_known.Goals as goal

pub returns : goal.returns
returns c = schedulers_are_known
