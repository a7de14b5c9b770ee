use Rattle.std.proofs.Common.{◌<◌, List, length, sym, subst}
use Rattle.ats_topology.specs.declared.port.Port.{Port}
use Rattle.ats_network_file.proofs.StepLemmas.{step_within}
use Rattle.ats_network_file.proofs.kept_steps.goes_to.Goals as goal

pub bounds-ports-port : goal.bounds-ports-port
bounds-ports-port c =
    subst (λ (ports : List Port). c.args.port < length ports) (sym c.ports.ensures.value)
    (step_within c.args.topology.now.ports c.args.port c.requires)
