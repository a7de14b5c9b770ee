use Rattle.ats_port_rule.proofs.Permuted.{rule-permutation}
use Rattle.ats_port_rule.proofs.laws.rule_kept_by_permutation.Goals as goal

pub returns : goal.returns
returns c = rule-permutation
