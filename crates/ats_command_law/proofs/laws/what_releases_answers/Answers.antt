use Rattle.ats_command_law.proofs.ReleasesMeanings.{releases_mean}
use Rattle.ats_command_law.proofs.laws.what_releases_answers.Goals as goal

pub returns : goal.returns
returns c = releases_mean
