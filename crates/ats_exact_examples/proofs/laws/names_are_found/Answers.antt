use Rattle.ats_exact_examples.proofs.FoundProofs.{names_are_found}
use Rattle.ats_exact_examples.proofs.laws.names_are_found.Goals as goal

pub returns : goal.returns
returns c = names_are_found
