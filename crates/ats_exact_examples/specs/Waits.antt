use Rattle.std.specs.Prelude.{◌≡◌, ℕ, ◌+◌, List, [], ◌∷◌}
use Rattle.ats_network.specs.Network.{DeclaredNetwork}
use Rattle.ats_certificate.specs.Certificate.{Covers, MayStay, RowHolds}
use Rattle.ats_certificate.specs.declared.row.Row.{Row}
use Rattle.ats_buffer.specs.Buffer.{buffers_of}
use Rattle.ats_examples.specs.Networks.{line}
use Rattle.ats_examples.specs.Rows.{row_with}
use Rattle.ats_examples.specs.SoundRuns.{IsCertified}

-- Rows that wait longer than they must.

-- the row with this much more in its wait, and so in its bound
abbrev pub longer : Row → ℕ → Row
longer row more = row_with row.port row.class row.higher row.equal row.bursts row.lower row.least (row.wait + more)
    (row.bound + more)

-- it covers what the row covers, however much more that is: there is no greatest wait but the residence and deadlines.
-- Refuses a rule that a wait is at most twice the least
abbrev pub LongerCovers : Type 0
LongerCovers = (network : DeclaredNetwork) (row : Row) (more : ℕ) → Covers network row
    → Covers network (longer row more)

-- and it holds where frames may stay as long
abbrev pub LongerHolds : Type 0
LongerHolds = (network : DeclaredNetwork) (row : Row) (more : ℕ) → RowHolds network row
    → MayStay network row.port (row.wait + more) → RowHolds network (longer row more)

-- the line's rows with waits of 20 and 30 us, where 11.664 us are the least
abbrev pub long_rows : List Row
long_rows =
    row_with 0 6 0 100000000000 12336 0 672 20000000 22172000
    ∷ row_with 2 6 0 100000000000 12336 0 672 30000000 31172000
    ∷ []

-- buffers are by the waits of these rows, at the port and at the one before. Refuses buffers by the least waits, which
-- are of 13569 and 14736 bits, and at the second port those by the least wait there or before, of 15569 and 16569
pub record LongBuffers : Type 0 where
  pub certified : IsCertified line long_rows
  pub buffers : buffers_of line long_rows ≡ 14403 ∷ 17403 ∷ []

pub record WaitsMayGrow : Type 0 where
  pub covers : LongerCovers
  pub holds : LongerHolds
  pub buffers : LongBuffers
