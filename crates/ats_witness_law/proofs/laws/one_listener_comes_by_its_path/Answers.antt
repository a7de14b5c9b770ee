use Rattle.ats_witness_law.proofs.PortBefore as before
use Rattle.ats_witness_law.proofs.laws.one_listener_comes_by_its_path.Goals as goal

pub returns : goal.returns
returns c = before.one_listener_comes_by_its_path
