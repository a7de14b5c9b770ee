use Rattle.ats_lrq_law.proofs.Narrowed as proved
use Rattle.ats_lrq_law.proofs.laws.sound_by_spacing.Goals as goal

pub returns : goal.returns
returns c = proved.sound_by_spacing
