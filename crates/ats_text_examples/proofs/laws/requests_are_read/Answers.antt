use Rattle.ats_text_examples.proofs.RequestsRead.{requests_are_read}
use Rattle.ats_text_examples.proofs.laws.requests_are_read.Goals as goal

pub returns : goal.returns
returns c = requests_are_read
