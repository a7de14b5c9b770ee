use Rattle.ats_text_law.proofs.Accepted.{accepted_tells_all}
use Rattle.ats_text_law.proofs.laws.accepted_tells_all.Goals as goal

pub returns : goal.returns
returns c = accepted_tells_all
