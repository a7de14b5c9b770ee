use Rattle.ats_witness_examples.proofs.Bursting.{frames_are_worked}
use Rattle.ats_witness_examples.proofs.laws.frames_are_worked.Goals as goal

pub returns : goal.returns
returns c = frames_are_worked
