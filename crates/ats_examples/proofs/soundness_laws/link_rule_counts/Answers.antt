use Rattle.ats_examples.proofs.SpreadBoundProofs.{link_rule_counts}
use Rattle.ats_examples.proofs.soundness_laws.link_rule_counts.Goals as goal

pub returns : goal.returns
returns c = link_rule_counts
