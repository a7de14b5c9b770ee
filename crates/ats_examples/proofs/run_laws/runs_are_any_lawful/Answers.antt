use Rattle.ats_examples.proofs.LegalProofs.{any_lawful}
use Rattle.ats_examples.proofs.run_laws.runs_are_any_lawful.Goals as goal

pub returns : goal.returns
returns c = any_lawful
