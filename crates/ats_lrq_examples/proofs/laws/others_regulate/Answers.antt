use Rattle.ats_lrq_examples.proofs.AloneProofs.{others_regulate}
use Rattle.ats_lrq_examples.proofs.laws.others_regulate.Goals as goal

pub returns : goal.returns
returns c = others_regulate
