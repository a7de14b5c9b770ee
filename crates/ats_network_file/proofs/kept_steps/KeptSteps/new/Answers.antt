use Rattle.ats_network_file.proofs.StepLemmas.{none_kept}
use Rattle.ats_network_file.proofs.kept_steps.KeptSteps.new.Goals as goal

pub returns : goal.returns
returns c topology = none_kept topology (record { ports = c.in_ok-ports.ports }) c.in_ok-ports.ensures
