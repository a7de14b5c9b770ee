use Rattle.ats_one_listener_law.proofs.Texts.{show_tells_one_line}
use Rattle.ats_one_listener_law.proofs.laws.show_tells_one_line.Goals as goal

pub returns : goal.returns
returns c = show_tells_one_line
