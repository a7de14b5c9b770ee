use Rattle.ats_plain_run_law.proofs.MeasureProofs.{measures_are_traced}
use Rattle.ats_plain_run_law.proofs.laws.measures_are_traced.Goals as goal

pub returns : goal.returns
returns c = measures_are_traced
