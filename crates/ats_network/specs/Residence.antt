use Rattle.std.specs.Prelude.{ℕ, Bool, Option, Some, None}
use Rattle.ats_topology.specs.Node.{is_station}
use Rattle.ats_topology.specs.Port.{port_at}
use Rattle.ats_topology.specs.Topology.{DeclaredTopology, node_at}
use Rattle.ats_topology.specs.declared.node.Kind.{Kind}
use Rattle.ats_topology.specs.declared.node.Kind.TheVariants.{Station, Bridge}

-- the maximum residence time of a bridge in nanoseconds; a station has none
abbrev pub residence_at : Kind → Option ℕ
residence_at Station = None
residence_at (Bridge processing_min_ns processing_max_ns residence_ns clock_ppm clock_step_ps) = Some residence_ns

-- the maximum residence time, in nanoseconds, of the bridge that a port leads to
abbrev pub residence_after : DeclaredTopology → ℕ → Option ℕ
residence_after topology p = residence_at (node_at topology.nodes (port_at topology.ports p).to).kind

-- the port leads to a station
abbrev pub leads_to_station : DeclaredTopology → ℕ → Bool
leads_to_station topology p = is_station (node_at topology.nodes (port_at topology.ports p).to).kind
