use Rattle.ats_network.proofs.RateLemmas.{flow_sees_nothing}
use Rattle.ats_network.proofs.laws.flows_have_no_rate.Goals as goal

pub returns : goal.returns
returns c = flow_sees_nothing
