use Rattle.std.proofs.Common.{sym, ap, ◌∙◌, List}
use Rattle.ats_topology.specs.Faults.{topology_fault}
use Rattle.ats_topology.specs.declared.node.Node.{Node}
use Rattle.ats_topology.proofs.topology.Topology.new.Goals as goal

pub ports_of-requires-clause-sound : goal.ports_of-requires-clause-sound
ports_of-requires-clause-sound c =
    ap (topology_fault c.deref-3.result.now) (c.deref-4.ensures.value ∙ sym c.deref-2.ensures.value)
    ∙ ap (λ (nodes : List Node). topology_fault nodes c.deref-2.result.now)
    (c.deref-3.ensures.value ∙ sym c.deref.ensures.value)
    ∙ c.in_ok-names.ensures.sound
