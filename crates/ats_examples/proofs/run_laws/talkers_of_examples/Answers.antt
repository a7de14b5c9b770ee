use Rattle.ats_examples.proofs.TalkerProofs.{talkers_of_examples}
use Rattle.ats_examples.proofs.run_laws.talkers_of_examples.Goals as goal

pub returns : goal.returns
returns c = talkers_of_examples
