use Rattle.ats_command_law.proofs.GenerateMeanings.{generate_means}
use Rattle.ats_command_law.proofs.laws.what_generate_answers.Goals as goal

pub returns : goal.returns
returns c = generate_means
