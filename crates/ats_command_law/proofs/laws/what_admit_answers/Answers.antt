use Rattle.ats_command_law.proofs.AdmitMeanings.{admit_means}
use Rattle.ats_command_law.proofs.laws.what_admit_answers.Goals as goal

pub returns : goal.returns
returns c = admit_means
