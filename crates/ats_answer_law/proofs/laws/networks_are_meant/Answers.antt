use Rattle.ats_answer_law.proofs.Networks.{networks_are_meant}
use Rattle.ats_answer_law.proofs.laws.networks_are_meant.Goals as goal

pub returns : goal.returns
returns c = networks_are_meant
