use Rattle.ats_exact_examples.proofs.LinkProofs.{latencies_may_differ}
use Rattle.ats_exact_examples.proofs.laws.latencies_may_differ.Goals as goal

pub returns : goal.returns
returns c = latencies_may_differ
