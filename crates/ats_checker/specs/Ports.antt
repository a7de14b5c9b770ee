use Rattle.std.specs.Prelude.{◌<◌, List, length, All}
use Rattle.ats_topology.specs.Topology.{DeclaredTopology}
use Rattle.ats_certificate.specs.declared.row.Row.{Row}
use Rattle.ats_tally.specs.Reason.{ReasonInside}
use Rattle.ats_checker.specs.declared.refusal.Refusal.{Refusal}
use Rattle.ats_checker.specs.declared.refusal.Refusal.TheVariants.{RowMissing, RowStray, FieldWrong, WaitTooSmall}
use Rattle.ats_checker.specs.declared.refusal.Refusal.TheVariants.{Network}

-- the port of each row is a port of the topology
abbrev pub RowsInside : DeclaredTopology → List Row → Type 0
RowsInside topology rows = All (λ (row : Row). row.port < length topology.ports) rows

-- the port that a refusal names, where it names one, is a port of the topology
abbrev pub RefusalInside : DeclaredTopology → Refusal → Type 0
RefusalInside topology (RowMissing port class) = port < length topology.ports
RefusalInside topology (RowStray port class) = port < length topology.ports
RefusalInside topology (FieldWrong port class field right) = port < length topology.ports
RefusalInside topology (WaitTooSmall port class least) = port < length topology.ports
RefusalInside topology (Network reason) = ReasonInside topology reason
