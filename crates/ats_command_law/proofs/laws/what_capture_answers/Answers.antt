use Rattle.ats_command_law.proofs.CaptureMeanings.{capture_means}
use Rattle.ats_command_law.proofs.laws.what_capture_answers.Goals as goal

pub returns : goal.returns
returns c = capture_means
