use Rattle.ats_answer_law.proofs.Places.{places_are_meant}
use Rattle.ats_answer_law.proofs.say_laws.places_are_meant.Goals as goal

pub returns : goal.returns
returns c = places_are_meant
