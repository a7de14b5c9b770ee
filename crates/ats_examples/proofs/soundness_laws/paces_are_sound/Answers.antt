use Rattle.ats_examples.proofs.SpreadBoundProofs.{paces_are_sound}
use Rattle.ats_examples.proofs.soundness_laws.paces_are_sound.Goals as goal

pub returns : goal.returns
returns c = paces_are_sound
