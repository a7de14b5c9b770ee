use Rattle.ats_meeting_examples.proofs.MadeProofs.{releases_are_of_each_stream}
use Rattle.ats_meeting_examples.proofs.laws.releases_are_of_each_stream.Goals as goal

pub returns : goal.returns
returns c = releases_are_of_each_stream
