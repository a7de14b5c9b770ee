use Rattle.ats_plain_answer_law.proofs.ViewProofs.{views_are_named}
use Rattle.ats_plain_answer_law.proofs.laws.views_are_named.Goals as goal

pub returns : goal.returns
returns c = views_are_named
