use Rattle.ats_witness_law.proofs.PortBefore as before
use Rattle.ats_witness_law.proofs.laws.travel_goes_over_the_port_before.Goals as goal

pub returns : goal.returns
returns c = before.travel_goes_over_the_port_before
