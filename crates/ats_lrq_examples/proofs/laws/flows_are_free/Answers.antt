use Rattle.ats_lrq_examples.proofs.MetProofs as example
use Rattle.ats_lrq_examples.proofs.laws.flows_are_free.Goals as goal

pub returns : goal.returns
returns c = example.flows_are_free
