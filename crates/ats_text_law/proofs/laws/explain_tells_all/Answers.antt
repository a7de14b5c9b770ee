use Rattle.ats_text_law.proofs.Explained.{explain_tells_all}
use Rattle.ats_text_law.proofs.laws.explain_tells_all.Goals as goal

pub returns : goal.returns
returns c = explain_tells_all
