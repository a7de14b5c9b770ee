use Rattle.ats_plain_topology_law.proofs.LeadProofs.{leads_are_given}
use Rattle.ats_plain_topology_law.proofs.laws.leads_are_given.Goals as goal

pub returns : goal.returns
returns c = leads_are_given
