use Rattle.ats_command_law.proofs.WitnessMeanings.{witness_means}
use Rattle.ats_command_law.proofs.laws.what_witness_answers.Goals as goal

pub returns : goal.returns
returns c = witness_means
