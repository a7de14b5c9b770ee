use Rattle.ats_port_rule.proofs.Permuted.{tie-permutation}
use Rattle.ats_port_rule.proofs.laws.tie_kept_by_permutation.Goals as goal

pub returns : goal.returns
returns c = tie-permutation
