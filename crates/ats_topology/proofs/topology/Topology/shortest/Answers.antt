use Rattle.ats_topology.proofs.KeptRules.{kept_rules, table_between, table_paired}
use Rattle.ats_topology.proofs.topology.Topology.shortest.Goals as goal

pub least_walk-requires-clause-inside : goal.least_walk-requires-clause-inside
least_walk-requires-clause-inside c = table_between c.self.inside.node_list.items c.self.inside.link_list.items
    c.self.inside.names c.self.inside.table c.self.invariant

pub least_walk-requires-clause-paired : goal.least_walk-requires-clause-paired
least_walk-requires-clause-paired c = table_paired c.self.inside.node_list.items c.self.inside.link_list.items
    c.self.inside.names c.self.inside.table c.self.invariant

pub returns-clause-rules : goal.returns-clause-rules
returns-clause-rules c = kept_rules c.self.inside.node_list.items c.self.inside.link_list.items c.self.inside.names
    c.self.inside.table c.args.self.now c.self.invariant c.self.view_is
