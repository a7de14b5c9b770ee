use Rattle.ats_examples.proofs.ClassProofs.{classes_of_ports, classes_of_groups}
use Rattle.ats_examples.proofs.run_laws.classes_of_runs.Goals as goal

pub returns : goal.returns
returns c = record { ports = classes_of_ports; groups = classes_of_groups }
