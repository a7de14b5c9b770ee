use Rattle.ats_meaning_examples.proofs.RunTotalsMeant.{run_totals_are_meant}
use Rattle.ats_meaning_examples.proofs.laws.run_totals_are_meant.Goals as goal

pub returns : goal.returns
returns c = run_totals_are_meant
