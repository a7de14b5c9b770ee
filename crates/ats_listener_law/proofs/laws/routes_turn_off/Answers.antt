use Rattle.ats_listener_law.proofs.Turns.{routes_turn_off}
use Rattle.ats_listener_law.proofs.laws.routes_turn_off.Goals as goal

pub returns : goal.returns
returns c = routes_turn_off
