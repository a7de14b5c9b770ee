use Rattle.ats_port_law.proofs.Law.{law_by}
use Rattle.ats_port_law.proofs.laws.port_law_by_told_times.Goals as goal

pub returns : goal.returns
returns c = law_by
