use Rattle.ats_own_examples.proofs.StayProofs.{stays_are_exact}
use Rattle.ats_own_examples.proofs.laws.stays_are_exact.Goals as goal

pub returns : goal.returns
returns c = stays_are_exact c.each_stream_adds_up.ensures
