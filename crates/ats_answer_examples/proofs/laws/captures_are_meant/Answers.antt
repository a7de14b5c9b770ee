use Rattle.ats_answer_examples.proofs.CapturedMeant.{captures_are_meant}
use Rattle.ats_answer_examples.proofs.laws.captures_are_meant.Goals as goal

pub returns : goal.returns
returns c = captures_are_meant
