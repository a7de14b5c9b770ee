use Rattle.ats_answer_law.proofs.PromisedRuns.{promised_runs_are_meant}
use Rattle.ats_answer_law.proofs.run_laws.promised_runs_are_meant.Goals as goal

pub returns : goal.returns
returns c = promised_runs_are_meant
