use Rattle.ats_plain_promise_law.proofs.LegalRunProofs.{legal_runs_are_plain}
use Rattle.ats_plain_promise_law.proofs.laws.legal_runs_are_plain.Goals as goal

pub returns : goal.returns
returns c = legal_runs_are_plain
