use Rattle.std.proofs.Common.{List, length, All}
use Rattle.ats_topology.specs.Topology.{DeclaredTopology}
use Rattle.ats_certificate.specs.Form.{AreRows}
use Rattle.ats_certificate.specs.declared.row.Row.{Row}
use Rattle.ats_checker.specs.Ports.{RowsInside}
use Rattle.ats_buffer.specs.Occupancy.{HasPlace}

-- each row of a certificate for the ports of a topology has a port there and a class
pub rows_placed : (topology : DeclaredTopology) (rows : List Row) → RowsInside topology rows → AreRows rows
    → All (HasPlace (length topology.ports)) rows
rows_placed topology rows inside are k d h =
    record { port = inside k d h; class = (are.each k d h).class_most }
