use Rattle.ats_tally.proofs.Places.{is_place}
use Rattle.ats_bound.proofs.Waits.{least_row-is}
use Rattle.ats_bound.proofs.laws.computed_row_is_least.Goals as goal

pub returns : goal.returns
returns c =
    λ network port class is used fits. least_row-is network port class (is_place network port class is used) fits
