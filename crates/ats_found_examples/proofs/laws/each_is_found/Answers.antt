use Rattle.ats_found_examples.proofs.EachProofs.{each_is_found}
use Rattle.ats_found_examples.proofs.laws.each_is_found.Goals as goal

pub returns : goal.returns
returns c = each_is_found
