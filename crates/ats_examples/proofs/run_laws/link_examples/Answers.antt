use Rattle.ats_examples.proofs.CrossingProofs.{link_examples}
use Rattle.ats_examples.proofs.run_laws.link_examples.Goals as goal

pub returns : goal.returns
returns c = link_examples
