use Rattle.std.specs.Prelude.{◌≡◌, ℕ, List, [], ◌∷◌, codes, map, replicate, Result, Err}
use Rattle.ats_certificate.specs.declared.row.Row.{Row}
use Rattle.ats_certificate_file.specs.Reading.{header, rows_under}
use Rattle.ats_certificate_file.specs.declared.fault.CertFault.{CertFault}
use Rattle.ats_certificate_file.specs.declared.fault.CertFault.TheVariants as row
use Rattle.ats_trace.specs.declared.journey.Release.{Release}
use Rattle.ats_schedule.specs.Reading.{header as release_header, releases_under}
use Rattle.ats_schedule.specs.declared.fault.ScheduleFault.{ScheduleFault}
use Rattle.ats_schedule.specs.declared.fault.ScheduleFault.TheVariants as wrong
use Rattle.ats_examples.specs.Networks.{line}

-- Two records with a fault each, in certificates and schedules.

-- the fields of a record
abbrev pub Fields : Type 0
Fields = List (List ℕ)

-- a row of this port and class
abbrev pub row_at : List ℕ → List ℕ → Fields
row_at port class = port ∷ class ∷ replicate 7 (codes "1")

-- behind the row of `b1>s1` and class 6: too few fields, a port that is none, a class that is none, and a row that
-- stands before that one
abbrev pub faulty_rows : List Fields
faulty_rows =
    (codes "x" ∷ []) ∷ row_at (codes "s1>s2") (codes "7") ∷ row_at (codes "s2>b1") (codes "8")
    ∷ row_at (codes "s1>b1") (codes "6") ∷ []

-- what is read of two records behind that row: records 3 and 4
abbrev pub of_rows : Fields → Fields → Result (List Row) CertFault
of_rows third fourth =
    rows_under line.topology (header ∷ row_at (codes "b1>s1") (codes "6") ∷ third ∷ fourth ∷ [])

-- whichever fault is in record 4, that of record 3 is named. Refuses a reader that first looks at the widths of all
-- records, or at their ports, or at their numbers
pub record FirstRowIsNamed : Type 0 where
  pub width : map (of_rows (codes "x" ∷ [])) faulty_rows ≡ replicate 4 (Err (row.BadRow 3))
  pub port : map (of_rows (row_at (codes "s1>s2") (codes "7"))) faulty_rows ≡ replicate 4 (Err (row.UnknownPort 3))
  pub number : map (of_rows (row_at (codes "s2>b1") (codes "8"))) faulty_rows ≡ replicate 4 (Err (row.BadNumber 3))
  pub order : map (of_rows (row_at (codes "s1>b1") (codes "6"))) faulty_rows ≡ replicate 4 (Err (row.RowOrder 3))

-- a release of the stream
abbrev pub release_of : List ℕ → List ℕ → Fields
release_of time octets = time ∷ codes "a" ∷ octets ∷ []

-- behind a release at 2003 ps: too few fields, a name that is none, octets that are no number, octets that are too few,
-- a time that goes back, and one past the limit
abbrev pub faulty_releases : List Fields
faulty_releases =
    (codes "x" ∷ []) ∷ (codes "2004" ∷ codes "w" ∷ codes "64" ∷ []) ∷ release_of (codes "2004") (codes "x")
    ∷ release_of (codes "2004") (codes "63") ∷ release_of (codes "2002") (codes "64")
    ∷ release_of (codes "100000000000000001") (codes "64") ∷ []

abbrev pub of_releases : Fields → Fields → Result (List Release) ScheduleFault
of_releases third fourth =
    releases_under line (release_header ∷ release_of (codes "2003") (codes "64") ∷ third ∷ fourth ∷ [])

-- the same for a schedule. Refuses a reader that looks at the names of all records before the first number, or at all
-- numbers before the order of times
pub record FirstReleaseIsNamed : Type 0 where
  pub width : map (of_releases (codes "x" ∷ [])) faulty_releases ≡ replicate 6 (Err (wrong.BadRow 3))
  pub name : map (of_releases (codes "2004" ∷ codes "w" ∷ codes "64" ∷ [])) faulty_releases
      ≡ replicate 6 (Err (wrong.UnknownName 3))
  pub number : map (of_releases (release_of (codes "2004") (codes "x"))) faulty_releases
      ≡ replicate 6 (Err (wrong.BadNumber 3))
  pub size : map (of_releases (release_of (codes "2004") (codes "63"))) faulty_releases
      ≡ replicate 6 (Err (wrong.BadSize 3))
  pub back : map (of_releases (release_of (codes "2002") (codes "64"))) faulty_releases
      ≡ replicate 6 (Err (wrong.TimeBack 3))
  pub limit : map (of_releases (release_of (codes "100000000000000001") (codes "64"))) faulty_releases
      ≡ replicate 6 (Err (wrong.Limit 3))

pub record FirstFaultsAreNamed : Type 0 where
  pub rows : FirstRowIsNamed
  pub releases : FirstReleaseIsNamed
