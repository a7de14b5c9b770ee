use Rattle.ats_answer_law.proofs.Dues.{releases_are_due}
use Rattle.ats_answer_law.proofs.laws.releases_are_due.Goals as goal

pub returns : goal.returns
returns c = releases_are_due c.what_releases_answers.ensures
