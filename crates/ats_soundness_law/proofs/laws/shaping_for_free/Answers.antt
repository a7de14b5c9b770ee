use Rattle.ats_soundness_law.proofs.ShapedIn.{shaping_for_free}
use Rattle.ats_soundness_law.proofs.laws.shaping_for_free.Goals as goal

pub returns : goal.returns
returns c = shaping_for_free
