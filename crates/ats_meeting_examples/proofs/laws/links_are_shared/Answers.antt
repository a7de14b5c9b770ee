use Rattle.ats_meeting_examples.proofs.LinkProofs.{links_are_shared}
use Rattle.ats_meeting_examples.proofs.laws.links_are_shared.Goals as goal

pub returns : goal.returns
returns c = links_are_shared
