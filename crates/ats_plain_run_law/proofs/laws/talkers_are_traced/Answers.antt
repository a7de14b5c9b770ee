use Rattle.ats_plain_run_law.proofs.TalkerProofs.{talkers_are_traced}
use Rattle.ats_plain_run_law.proofs.laws.talkers_are_traced.Goals as goal

pub returns : goal.returns
returns c = talkers_are_traced
