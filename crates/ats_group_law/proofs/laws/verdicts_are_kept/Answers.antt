use Rattle.ats_group_law.proofs.Renaming.{verdicts_kept}
use Rattle.ats_group_law.proofs.laws.verdicts_are_kept.Goals as goal

pub returns : goal.returns
returns c = verdicts_kept
