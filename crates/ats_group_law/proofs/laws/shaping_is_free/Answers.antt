use Rattle.ats_group_law.proofs.ShapingFree.{shaping_free}
use Rattle.ats_group_law.proofs.laws.shaping_is_free.Goals as goal

pub returns : goal.returns
returns c = shaping_free
