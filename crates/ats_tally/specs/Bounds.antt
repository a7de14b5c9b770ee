use Rattle.std.specs.Prelude.{◌≡◌, ℕ, ◌<◌, ◌≤◌, List, Option, Some}
use Rattle.std.specs.Option.{option_map}
use Rattle.ats_class_table.specs.Table.{Table, value_at}
use Rattle.ats_certificate.specs.Certificate.{row_of}
use Rattle.ats_certificate.specs.Form.{AreRows}
use Rattle.ats_certificate.specs.declared.row.Row.{Row}

-- the rows of a certificate, whose bounds are looked up at so many ports
pub record RowsAt : Type 0 where
  pub ports : ℕ
  pub rows : List Row

abbrev pub rows_at : ℕ → List Row → RowsAt
rows_at ports rows = record { ports = ports; rows = rows }

-- the bound of a port and a class, if there is a row for them
abbrev pub bound_given : List Row → ℕ → ℕ → Option ℕ
bound_given rows port class = option_map (λ (row : Row). row.bound) (row_of rows port class)

-- a table has the bounds of so many ports, that of each port and class
pub record AreBounds (ports : ℕ) (rows : List Row) (bounds : Table (Option ℕ)) : Type 0 where
  pub count : bounds.ports ≡ ports
  pub each : (port class : ℕ) → port < ports → class ≤ 7
      → value_at bounds port class ≡ Some (bound_given rows port class)

-- a certificate's rows with such a table
pub record AreTabled (ports : ℕ) (rows : List Row) (bounds : Table (Option ℕ)) : Type 0 where
  pub placed : AreBounds ports rows bounds
  pub form : AreRows rows
