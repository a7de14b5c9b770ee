use Rattle.ats_listener_law.proofs.Alone.{one_listener_has_all_ports}
use Rattle.ats_listener_law.proofs.laws.one_listener_has_all_ports.Goals as goal

pub returns : goal.returns
returns c = one_listener_has_all_ports
