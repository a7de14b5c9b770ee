use Rattle.ats_examples.proofs.SoundRunProofs.{bridged_sound, babbler_contained}
use Rattle.ats_examples.proofs.soundness_laws.runs_are_sound.Goals as goal

pub returns : goal.returns
returns c = record { bridged = bridged_sound; babbler = babbler_contained }
