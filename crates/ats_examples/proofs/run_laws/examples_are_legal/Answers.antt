use Rattle.ats_examples.proofs.LegalProofs.{examples_legal, regulated_legal}
use Rattle.ats_examples.proofs.run_laws.examples_are_legal.Goals as goal

pub returns : goal.returns
returns c = record { plain = examples_legal; regulated = regulated_legal }
