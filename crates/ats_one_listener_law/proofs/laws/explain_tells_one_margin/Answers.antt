use Rattle.ats_one_listener_law.proofs.Texts.{explain_tells_one_margin}
use Rattle.ats_one_listener_law.proofs.laws.explain_tells_one_margin.Goals as goal

pub returns : goal.returns
returns c = explain_tells_one_margin
