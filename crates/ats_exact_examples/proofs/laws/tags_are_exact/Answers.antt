use Rattle.ats_exact_examples.proofs.TagProofs.{tags_are_exact}
use Rattle.ats_exact_examples.proofs.laws.tags_are_exact.Goals as goal

pub returns : goal.returns
returns c = tags_are_exact
