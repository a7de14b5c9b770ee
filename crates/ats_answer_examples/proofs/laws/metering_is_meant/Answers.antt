use Rattle.ats_answer_examples.proofs.MeteredProofs.{metering_is_meant}
use Rattle.ats_answer_examples.proofs.laws.metering_is_meant.Goals as goal

pub returns : goal.returns
returns c = metering_is_meant
