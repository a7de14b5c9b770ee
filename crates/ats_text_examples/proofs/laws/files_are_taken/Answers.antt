use Rattle.ats_text_examples.proofs.Taking.{files_are_taken}
use Rattle.ats_text_examples.proofs.laws.files_are_taken.Goals as goal

pub returns : goal.returns
returns c = files_are_taken
