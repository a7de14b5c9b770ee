use Rattle.std.specs.Prelude.{ℕ, ◌≤◌, List, All}
use Rattle.ats_topology.specs.Port.{port_at}
use Rattle.ats_network.specs.Network.{DeclaredNetwork}
use Rattle.ats_certificate.specs.Certificate.{Covers, HasRows, IsEnough}
use Rattle.ats_certificate.specs.declared.row.Row.{Row}

-- a row that covers its port and class with the least wait that is enough
pub record IsLeastRow (network : DeclaredNetwork) (row : Row) : Type 0 where
  pub covers : Covers network row
  pub least : (wait : ℕ) → IsEnough (port_at network.topology.ports row.port) (record row { wait = wait })
      → row.wait ≤ wait

-- the least certificate of a network: its rows, each with the least wait
pub record IsLeastCertificate (network : DeclaredNetwork) (rows : List Row) : Type 0 where
  pub rows_of : HasRows network rows
  pub each : All (IsLeastRow network) rows
