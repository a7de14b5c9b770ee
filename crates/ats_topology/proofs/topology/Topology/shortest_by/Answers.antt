use Rattle.ats_topology.proofs.KeptRules.{kept_rules, table_between}
use Rattle.ats_topology.proofs.topology.Topology.shortest_by.Goals as goal

pub least_walk_by-requires-clause-inside : goal.least_walk_by-requires-clause-inside
least_walk_by-requires-clause-inside c = table_between c.self.inside.node_list.items c.self.inside.link_list.items
    c.self.inside.names c.self.inside.table c.self.invariant

pub returns-clause-rules : goal.returns-clause-rules
returns-clause-rules c = kept_rules c.self.inside.node_list.items c.self.inside.link_list.items c.self.inside.names
    c.self.inside.table c.args.self.now c.self.invariant c.self.view_is
