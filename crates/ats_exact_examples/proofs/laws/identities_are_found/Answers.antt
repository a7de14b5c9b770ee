use Rattle.ats_exact_examples.proofs.FoundProofs.{identities_are_found}
use Rattle.ats_exact_examples.proofs.laws.identities_are_found.Goals as goal

pub returns : goal.returns
returns c = identities_are_found
