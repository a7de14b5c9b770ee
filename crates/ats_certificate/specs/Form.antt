use Rattle.std.specs.Prelude.{◌-◌, ◌^◌, ◌<◌, ◌≤◌, List, length, All, AllPairs, Option, slice_get}
use Rattle.std.specs.Option.{ForSome}
use Rattle.ats_num.specs.declared.wire.TheConstants.{MAX_WIRE_BITS}
use Rattle.ats_certificate.specs.Certificate.{IsBefore}
use Rattle.ats_certificate.specs.declared.row.Row.{Row}

-- a row of a certificate: its class is 1 to 7, its frames have at most the bits of the longest one, and its other
-- numbers have at most 36 digits
pub record IsRow (row : Row) : Type 0 where
  pub class_least : 1 ≤ row.class
  pub class_most : row.class ≤ 7
  pub higher : row.higher < 10 ^ 36
  pub equal : row.equal < 10 ^ 36
  pub bursts : row.bursts < 10 ^ 36
  pub lower : row.lower ≤ MAX_WIRE_BITS
  pub least : row.least ≤ MAX_WIRE_BITS
  pub wait : row.wait < 10 ^ 36
  pub bound : row.bound < 10 ^ 36

-- the rows of a certificate: each is in form, and they ascend strictly by port and then class
pub record AreRows (rows : List Row) : Type 0 where
  pub each : All IsRow rows
  pub ordered : AllPairs IsBefore rows

-- the last of some rows, if there is one
abbrev pub last_of : List Row → Option Row
last_of rows = slice_get rows (length rows - 1)

-- a row comes after the last of some rows
abbrev pub ComesAfter : List Row → Row → Type 0
ComesAfter rows row = ForSome (last_of rows) (λ last. IsBefore last row)
