use Rattle.ats_call_examples.proofs.Fitted.{fit_is_answered}
use Rattle.ats_call_examples.proofs.laws.fit_is_answered.Goals as goal

pub returns : goal.returns
returns c = fit_is_answered
