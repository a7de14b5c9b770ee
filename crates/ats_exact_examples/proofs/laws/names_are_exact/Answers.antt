use Rattle.ats_exact_examples.proofs.NamedProofs.{names_are_exact}
use Rattle.ats_exact_examples.proofs.laws.names_are_exact.Goals as goal

pub returns : goal.returns
returns c = names_are_exact
