use Rattle.ats_plain_answer_law.proofs.VerbProofs.{verbs_are_named}
use Rattle.ats_plain_answer_law.proofs.laws.verbs_are_named.Goals as goal

pub returns : goal.returns
returns c = verbs_are_named
