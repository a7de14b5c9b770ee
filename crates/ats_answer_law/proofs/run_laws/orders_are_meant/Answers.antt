use Rattle.ats_answer_law.proofs.RunMeaning.{orders_are_meant}
use Rattle.ats_answer_law.proofs.run_laws.orders_are_meant.Goals as goal

pub returns : goal.returns
returns c = orders_are_meant
