use Rattle.std.specs.Prelude.{ℕ, ◌+◌, Bool, true, ◌&&◌, ◌||◌, ◌==◌, nat_le, nat_lt, List, [], ◌∷◌, ◌++◌, length, codes}
use Rattle.std.specs.Prelude.{Option, Some, None, Result, Ok, Err, if◌then◌else◌}
use Rattle.ats_num.specs.Number.{number_of}
use Rattle.ats_num.specs.declared.wire.TheConstants.{MAX_WIRE_BITS}
use Rattle.ats_topology.specs.Topology.{DeclaredTopology}
use Rattle.ats_port_names.specs.PortName.{port_named}
use Rattle.ats_csv.specs.Reading.{field_of, records_of, same_fields}
use Rattle.ats_certificate.specs.Form.{last_of}
use Rattle.ats_certificate.specs.declared.row.Row.{Row}
use Rattle.ats_num.specs.Failure.{◌>>=◌, or_fault, ok_where}
use Rattle.ats_certificate_file.specs.declared.fault.CertFault.{CertFault}
use Rattle.ats_certificate_file.specs.declared.fault.CertFault.TheVariants.{BadRow, UnknownPort, BadNumber, RowOrder}

-- the first record of a certificate file
unfoldable pub header : List (List ℕ)
header = codes "port" ∷ codes "class" ∷ codes "higher" ∷ codes "equal" ∷ codes "bursts" ∷ codes "lower" ∷ codes "least"
    ∷ codes "wait" ∷ codes "bound" ∷ []

-- the number that a text in record n writes
abbrev pub number_in : ℕ → List ℕ → Result ℕ CertFault
number_in n text = or_fault (BadNumber n) (number_of text)

-- the same for a number that is to be at least and at most so much
abbrev pub number_within : ℕ → ℕ → ℕ → List ℕ → Result ℕ CertFault
number_within n least most text =
    number_in n text >>= λ number. ok_where (nat_le least number && nat_le number most) (BadNumber n) number

-- the row that the nine fields of record n write: the port by its name, then the numbers in their order
unfoldable pub row_in : DeclaredTopology → ℕ → List (List ℕ) → Result Row CertFault
row_in topology n fields = do
  port ← or_fault (UnknownPort n) (port_named topology (field_of fields 0))
  class ← number_within n 1 7 (field_of fields 1)
  higher ← number_in n (field_of fields 2)
  equal ← number_in n (field_of fields 3)
  bursts ← number_in n (field_of fields 4)
  lower ← number_within n 0 MAX_WIRE_BITS (field_of fields 5)
  least ← number_within n 0 MAX_WIRE_BITS (field_of fields 6)
  wait ← number_in n (field_of fields 7)
  bound ← number_in n (field_of fields 8)
  Ok (record {
    port = port;
    class = class;
    higher = higher;
    equal = equal;
    bursts = bursts;
    lower = lower;
    least = least;
    wait = wait;
    bound = bound;
  })

-- the first row comes before the second: its port is lower, or the port is the same and its class is lower
abbrev pub is_before : Row → Row → Bool
is_before a b = nat_lt a.port b.port || (a.port == b.port && nat_lt a.class b.class)

-- a row comes after the row before it, if there is one
abbrev pub comes_after : Option Row → Row → Bool
comes_after None row = true
comes_after (Some last) row = is_before last row

-- the row of record n, which follows these rows
unfoldable pub row_after : DeclaredTopology → List Row → ℕ → List (List ℕ) → Result Row CertFault
row_after topology rows n fields =
    row_in topology n fields >>= λ row. ok_where (comes_after (last_of rows) row) (RowOrder n) row

-- these rows, and those of the records from record n on, each with nine fields; or the first fault
abbrev pub rows_from : DeclaredTopology → List Row → ℕ → List (List (List ℕ)) → Result (List Row) CertFault
rows_from topology rows n [] = Ok rows
rows_from topology rows n (fields ∷ records) =
    ok_where (length fields == 9) (BadRow n) fields >>= λ nine. row_after topology rows n nine
    >>= λ row. rows_from topology (rows ++ row ∷ []) (n + 1) records

-- the rows of the records after the header, which is record 1
abbrev pub rows_under : DeclaredTopology → List (List (List ℕ)) → Result (List Row) CertFault
rows_under topology [] = Err (BadRow 1)
rows_under topology (first ∷ records) = if same_fields first header then rows_from topology [] 2 records
    else Err (BadRow 1)

-- the rows that a certificate file declares for the ports of a topology, or its first fault
abbrev pub rows_of : DeclaredTopology → List ℕ → Result (List Row) CertFault
rows_of topology bytes = rows_under topology (records_of bytes)
