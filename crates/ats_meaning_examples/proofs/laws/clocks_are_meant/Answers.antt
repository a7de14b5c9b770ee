use Rattle.ats_meaning_examples.proofs.ClockParts.{clocks_are_meant}
use Rattle.ats_meaning_examples.proofs.laws.clocks_are_meant.Goals as goal

pub returns : goal.returns
returns c = clocks_are_meant
