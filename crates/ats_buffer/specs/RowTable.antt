use Rattle.std.specs.Prelude.{◌≡◌, ℕ, ◌<◌, ◌≤◌, List, Option, Some}
use Rattle.ats_class_table.specs.Table.{Table, value_at}
use Rattle.ats_certificate.specs.Certificate.{row_of}
use Rattle.ats_certificate.specs.Form.{AreRows}
use Rattle.ats_certificate.specs.declared.row.Row.{Row}

-- the rows of a certificate, which are looked up at so many ports
pub record PlacedRows : Type 0 where
  pub ports : ℕ
  pub rows : List Row

abbrev pub placed_rows : ℕ → List Row → PlacedRows
placed_rows ports rows = record { ports = ports; rows = rows }

-- a table has the row of each port, of so many, and class, where there is one
pub record HasRows (ports : ℕ) (rows : List Row) (table : Table (Option Row)) : Type 0 where
  pub count : table.ports ≡ ports
  pub each : (port class : ℕ) → port < ports → class ≤ 7
      → value_at table port class ≡ Some (row_of rows port class)

-- a certificate's rows with such a table
pub record ArePlaced (ports : ℕ) (rows : List Row) (table : Table (Option Row)) : Type 0 where
  pub placed : HasRows ports rows table
  pub form : AreRows rows
