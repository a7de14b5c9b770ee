use Rattle.std.proofs.Common.{◌<◌, length, sym, subst, List, ◌∙◌}
use Rattle.ats_topology.specs.declared.port.Port.{Port}
use Rattle.ats_network_file.proofs.StepLemmas.{to_within}
use Rattle.ats_network_file.proofs.routes.ports_onward.Goals as goal

pub bounds-ports-port : goal.bounds-ports-port
bounds-ports-port c =
    subst (λ (ports : List Port). c.in-Some.port < length ports) (sym c.ports.ensures.value)
    (to_within c.args.topology.now c.loop-name.at c.in-Some.port c.name-item.result
    (sym c.port_to.ensures.value ∙ c.in-Some.is))
