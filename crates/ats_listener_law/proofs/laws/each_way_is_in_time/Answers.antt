use Rattle.ats_listener_law.proofs.Each.{each_way_is_in_time}
use Rattle.ats_listener_law.proofs.laws.each_way_is_in_time.Goals as goal

pub returns : goal.returns
returns c = each_way_is_in_time
