use Rattle.ats_one_listener_law.proofs.RunTexts.{generate_tells_one_line}
use Rattle.ats_one_listener_law.proofs.laws.generate_tells_one_line.Goals as goal

pub returns : goal.returns
returns c = generate_tells_one_line
