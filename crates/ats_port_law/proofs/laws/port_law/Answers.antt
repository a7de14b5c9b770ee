use Rattle.ats_port_law.proofs.Law.{law}
use Rattle.ats_port_law.proofs.laws.port_law.Goals as goal

pub returns : goal.returns
returns c = law
