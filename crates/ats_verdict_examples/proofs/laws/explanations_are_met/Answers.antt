use Rattle.ats_verdict_examples.proofs.Explanations.{explanations_met}
use Rattle.ats_verdict_examples.proofs.laws.explanations_are_met.Goals as goal

pub returns : goal.returns
returns c = explanations_met c.each_stream_adds_up.ensures c.clear_where_one_holds.ensures
