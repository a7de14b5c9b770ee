use Rattle.ats_command_law.proofs.BufferMeanings.{peaks_mean}
use Rattle.ats_command_law.proofs.laws.what_peaks_answer.Goals as goal

pub returns : goal.returns
returns c = peaks_mean
