use Rattle.ats_exact_examples.proofs.HeldProofs.{each_is_set_once}
use Rattle.ats_exact_examples.proofs.laws.each_is_set_once.Goals as goal

pub returns : goal.returns
returns c = each_is_set_once
