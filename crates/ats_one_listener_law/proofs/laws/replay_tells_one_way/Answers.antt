use Rattle.ats_one_listener_law.proofs.RunTexts.{replay_tells_one_way}
use Rattle.ats_one_listener_law.proofs.laws.replay_tells_one_way.Goals as goal

pub returns : goal.returns
returns c = replay_tells_one_way
