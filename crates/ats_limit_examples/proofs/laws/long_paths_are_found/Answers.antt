use Rattle.ats_limit_examples.proofs.ChainProofs.{long_paths_are_found}
use Rattle.ats_limit_examples.proofs.laws.long_paths_are_found.Goals as goal

pub returns : goal.returns
returns c = long_paths_are_found
