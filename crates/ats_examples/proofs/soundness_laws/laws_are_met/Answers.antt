use Rattle.ats_examples.proofs.LawsMetProofs as example
use Rattle.ats_examples.proofs.soundness_laws.laws_are_met.Goals as goal

pub returns : goal.returns
returns c = record { line = example.laws_are_met; bridges = example.bridges_are_met }
