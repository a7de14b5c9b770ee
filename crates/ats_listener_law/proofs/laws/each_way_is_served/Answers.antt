use Rattle.ats_listener_law.proofs.Each.{each_way_is_served}
use Rattle.ats_listener_law.proofs.laws.each_way_is_served.Goals as goal

pub returns : goal.returns
returns c = each_way_is_served
