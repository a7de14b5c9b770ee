use Rattle.ats_clock_law.proofs.PutBack.{put_back_come}
use Rattle.ats_clock_law.proofs.laws.put_back_come_in_order.Goals as goal

pub returns : goal.returns
returns c = put_back_come
