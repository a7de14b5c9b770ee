use Rattle.ats_topology.proofs.KeptRules.{table_between, table_paired}
use Rattle.ats_topology.proofs.topology.Topology.distances.Goals as goal

pub distances-requires-clause-inside : goal.distances-requires-clause-inside
distances-requires-clause-inside c = table_between c.self.inside.node_list.items c.self.inside.link_list.items
    c.self.inside.names c.self.inside.table c.self.invariant

pub distances-requires-clause-paired : goal.distances-requires-clause-paired
distances-requires-clause-paired c = table_paired c.self.inside.node_list.items c.self.inside.link_list.items
    c.self.inside.names c.self.inside.table c.self.invariant
