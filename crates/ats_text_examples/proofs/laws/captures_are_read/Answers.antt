use Rattle.ats_text_examples.proofs.RecordsRead.{captures_are_read}
use Rattle.ats_text_examples.proofs.laws.captures_are_read.Goals as goal

pub returns : goal.returns
returns c = captures_are_read
