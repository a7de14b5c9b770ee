use Rattle.ats_command_law.proofs.BufferMeanings.{buffers_mean}
use Rattle.ats_command_law.proofs.laws.what_buffers_answers.Goals as goal

pub returns : goal.returns
returns c = buffers_mean
