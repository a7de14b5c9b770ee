use Rattle.ats_answer_law.proofs.DueMeaning.{dues_are_meant}
use Rattle.ats_answer_law.proofs.say_laws.dues_are_meant.Goals as goal

pub returns : goal.returns
returns c = dues_are_meant
