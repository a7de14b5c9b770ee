use Rattle.ats_answer_law.proofs.Dues.{settings_are_due}
use Rattle.ats_answer_law.proofs.laws.settings_are_due.Goals as goal

pub returns : goal.returns
returns c = settings_are_due c.what_settings_answers.ensures
