use Rattle.ats_clock_examples.proofs.ShareProofs.{shares_are_of_the_port_before}
use Rattle.ats_clock_examples.proofs.number_laws.shares_are_of_the_port_before.Goals as goal

pub returns : goal.returns
returns c = shares_are_of_the_port_before
