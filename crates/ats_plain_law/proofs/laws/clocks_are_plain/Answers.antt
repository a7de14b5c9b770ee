use Rattle.ats_plain_law.proofs.ClockProofs.{clocks_are_plain}
use Rattle.ats_plain_law.proofs.laws.clocks_are_plain.Goals as goal

pub returns : goal.returns
returns c = clocks_are_plain
