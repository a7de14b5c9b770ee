use Rattle.ats_show_law.proofs.Lines.{show_tells_each_listener}
use Rattle.ats_show_law.proofs.laws.show_tells_each_listener.Goals as goal

pub returns : goal.returns
returns c = show_tells_each_listener
