use Rattle.ats_examples.proofs.RuleProofs as rules
use Rattle.ats_examples.proofs.soundness_laws.each_rule_counts.Goals as goal

pub returns : goal.returns
returns c = rules.each_rule_counts
