use Rattle.ats_first_examples.proofs.RecordsFirst.{records_are_first}
use Rattle.ats_first_examples.proofs.laws.records_are_first.Goals as goal

pub returns : goal.returns
returns c = records_are_first
