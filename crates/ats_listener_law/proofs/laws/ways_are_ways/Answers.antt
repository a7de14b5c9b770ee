use Rattle.ats_listener_law.proofs.Ways.{ways_are_ways}
use Rattle.ats_listener_law.proofs.laws.ways_are_ways.Goals as goal

pub returns : goal.returns
returns c = ways_are_ways
