use Rattle.ats_plain_topology_law.proofs.ResultProofs.{results_are_given}
use Rattle.ats_plain_topology_law.proofs.laws.results_are_given.Goals as goal

pub returns : goal.returns
returns c = results_are_given
