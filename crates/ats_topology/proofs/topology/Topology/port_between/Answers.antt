use Rattle.std.proofs.Common.{ap, ◌∙◌}
use Rattle.ats_topology.specs.Port.{port_between}
use Rattle.ats_topology.specs.Topology.{DeclaredTopology}
use Rattle.ats_topology.proofs.KeptRules.{goes_between}
use Rattle.ats_topology.proofs.topology.Topology.port_between.Goals as goal

pub returns-clause-goes : goal.returns-clause-goes
returns-clause-goes c =
    goes_between c.args.self.now.ports c.args.a c.args.b c.between.result
    (c.between.ensures ∙ ap (λ (v : DeclaredTopology). port_between c.args.a c.args.b v.ports) c.self.view_is)
