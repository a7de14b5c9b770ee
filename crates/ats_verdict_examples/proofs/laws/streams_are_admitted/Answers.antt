use Rattle.ats_verdict_examples.proofs.Admissions.{streams_are_admitted}
use Rattle.ats_verdict_examples.proofs.laws.streams_are_admitted.Goals as goal

pub returns : goal.returns
returns c = streams_are_admitted
