use Rattle.std.specs.Prelude.{◌<◌, IsTrue, length}
use Rattle.ats_network.specs.Network.{DeclaredNetwork}
use Rattle.ats_certificate.specs.PortSums.{is_used}
use Rattle.ats_certificate.specs.declared.row.Row.{Row}

-- a row's port is there, and some stream of its class uses it
pub record IsUsedRow (network : DeclaredNetwork) (row : Row) : Type 0 where
  pub used : IsTrue (is_used network row.port row.class)
  pub inside : row.port < length network.topology.ports
