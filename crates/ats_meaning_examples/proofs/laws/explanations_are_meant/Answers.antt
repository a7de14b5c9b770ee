use Rattle.ats_meaning_examples.proofs.PartsMeant.{explanations_are_meant}
use Rattle.ats_meaning_examples.proofs.laws.explanations_are_meant.Goals as goal

pub returns : goal.returns
returns c = explanations_are_meant c.each_stream_adds_up.ensures
