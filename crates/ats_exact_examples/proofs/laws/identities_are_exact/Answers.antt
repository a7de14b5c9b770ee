use Rattle.ats_exact_examples.proofs.IdentityProofs.{identities_are_exact}
use Rattle.ats_exact_examples.proofs.laws.identities_are_exact.Goals as goal

pub returns : goal.returns
returns c = identities_are_exact
