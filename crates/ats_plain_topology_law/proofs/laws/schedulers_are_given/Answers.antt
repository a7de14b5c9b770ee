use Rattle.ats_plain_topology_law.proofs.SchedulerProofs.{schedulers_are_given}
use Rattle.ats_plain_topology_law.proofs.laws.schedulers_are_given.Goals as goal

pub returns : goal.returns
returns c = schedulers_are_given
