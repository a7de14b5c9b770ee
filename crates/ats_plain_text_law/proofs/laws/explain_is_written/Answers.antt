use Rattle.ats_plain_text_law.proofs.ExplainProofs.{explain_is_written}
use Rattle.ats_plain_text_law.proofs.laws.explain_is_written.Goals as goal

pub returns : goal.returns
returns c = explain_is_written
