use Rattle.ats_fit_law.proofs.Over.{over_is_not_kept, over_counts}
use Rattle.ats_fit_law.proofs.laws.over_is_not_kept.Goals as goal

pub returns : goal.returns
returns c = record { sender = over_is_not_kept; number = over_counts }
