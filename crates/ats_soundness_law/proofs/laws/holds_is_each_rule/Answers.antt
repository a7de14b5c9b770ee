use Rattle.ats_soundness_law.proofs.EachRule as rules
use Rattle.ats_soundness_law.proofs.laws.holds_is_each_rule.Goals as goal

pub returns : goal.returns
returns c = rules.holds_is_each_rule
