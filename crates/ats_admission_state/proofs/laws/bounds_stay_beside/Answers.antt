use Rattle.ats_admission_state.proofs.Beside.{bounds_stay_beside}
use Rattle.ats_admission_state.proofs.laws.bounds_stay_beside.Goals as goal

pub returns : goal.returns
returns c = bounds_stay_beside
