use Rattle.ats_plain_run_law.proofs.TellingProofs.{tellings_are_traced}
use Rattle.ats_plain_run_law.proofs.laws.tellings_are_traced.Goals as goal

pub returns : goal.returns
returns c = tellings_are_traced
