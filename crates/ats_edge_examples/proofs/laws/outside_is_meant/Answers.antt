use Rattle.ats_edge_examples.proofs.OutsideMeant.{outside_is_meant}
use Rattle.ats_edge_examples.proofs.laws.outside_is_meant.Goals as goal

pub returns : goal.returns
returns c = outside_is_meant
