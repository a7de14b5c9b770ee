use Rattle.ats_meeting_examples.proofs.DrawProofs.{draws_are_by_frame}
use Rattle.ats_meeting_examples.proofs.laws.draws_are_by_frame.Goals as goal

pub returns : goal.returns
returns c = draws_are_by_frame
