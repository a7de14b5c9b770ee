use Rattle.ats_meaning_examples.proofs.HopParts.{hops_are_meant}
use Rattle.ats_meaning_examples.proofs.laws.hops_are_meant.Goals as goal

pub returns : goal.returns
returns c = hops_are_meant
