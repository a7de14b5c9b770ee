use Rattle.ats_examples.proofs.ClassBoundProofs.{classes_are_sound}
use Rattle.ats_examples.proofs.soundness_laws.classes_are_sound.Goals as goal

pub returns : goal.returns
returns c = classes_are_sound
