use Rattle.ats_answer_law.proofs.Waiting.{later_files_wait}
use Rattle.ats_answer_law.proofs.laws.later_files_wait.Goals as goal

pub returns : goal.returns
returns c = later_files_wait
