use Rattle.ats_listener_law.proofs.AtBridges.{branches_begin_at_bridges}
use Rattle.ats_listener_law.proofs.laws.branches_begin_at_bridges.Goals as goal

pub returns : goal.returns
returns c = branches_begin_at_bridges
