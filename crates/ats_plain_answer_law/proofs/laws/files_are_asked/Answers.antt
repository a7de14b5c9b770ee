use Rattle.ats_plain_answer_law.proofs.CallProofs.{files_are_asked}
use Rattle.ats_plain_answer_law.proofs.laws.files_are_asked.Goals as goal

pub returns : goal.returns
returns g c = files_are_asked g.F.Files.told g.F.Files.faults g.F.Files.reads
