use Rattle.ats_listener_law.proofs.Alone.{one_margin_for_each}
use Rattle.ats_listener_law.proofs.laws.one_margin_for_each.Goals as goal

pub returns : goal.returns
returns c = one_margin_for_each
