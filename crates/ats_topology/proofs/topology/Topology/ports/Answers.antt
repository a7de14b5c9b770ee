use Rattle.ats_topology.proofs.KeptRules.{kept_rules, kept_ports}
use Rattle.ats_topology.proofs.topology.Topology.ports.Goals as goal

pub returns-clause-rules : goal.returns-clause-rules
returns-clause-rules c = kept_rules c.self.inside.node_list.items c.self.inside.link_list.items c.self.inside.names
    c.self.inside.table c.args.self.now c.self.invariant c.self.view_is

pub returns-clause-kept : goal.returns-clause-kept
returns-clause-kept c = kept_ports c.self.inside.node_list.items c.self.inside.link_list.items c.self.inside.names
    c.self.inside.table c.args.self.now c.self.invariant c.self.view_is
