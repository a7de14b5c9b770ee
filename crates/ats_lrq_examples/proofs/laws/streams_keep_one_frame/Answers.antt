use Rattle.ats_lrq_examples.proofs.NarrowedProofs as example
use Rattle.ats_lrq_examples.proofs.laws.streams_keep_one_frame.Goals as goal

pub returns : goal.returns
returns c = example.streams_keep_one_frame
