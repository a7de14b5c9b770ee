use Rattle.ats_command_law.proofs.RecordMeanings.{record_means}
use Rattle.ats_command_law.proofs.laws.what_record_answers.Goals as goal

pub returns : goal.returns
returns c = record_means
