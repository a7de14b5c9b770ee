use Rattle.ats_trace.proofs.ExactLinks.{links_are_exact}
use Rattle.ats_trace.proofs.laws.links_are_exact.Goals as goal

pub returns : goal.returns
returns c = links_are_exact
