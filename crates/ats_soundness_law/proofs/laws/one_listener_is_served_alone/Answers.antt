use Rattle.ats_soundness_law.proofs.OneListener as alone
use Rattle.ats_soundness_law.proofs.laws.one_listener_is_served_alone.Goals as goal

pub returns : goal.returns
returns c = alone.one_listener_is_served_alone
