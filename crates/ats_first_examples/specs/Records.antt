use Rattle.std.specs.Prelude.{◌≡◌, ℕ, List, [], ◌∷◌, ◌++◌, codes, replicate, Result, Ok, Err}
use Rattle.ats_certificate.specs.declared.row.Row.{Row}
use Rattle.ats_certificate_file.specs.Reading.{rows_under}
use Rattle.ats_certificate_file.specs.declared.fault.CertFault.{CertFault}
use Rattle.ats_certificate_file.specs.declared.fault.CertFault.TheVariants as row
use Rattle.ats_trace.specs.declared.journey.Release.{Release}
use Rattle.ats_schedule.specs.Reading.{release_after, releases_under}
use Rattle.ats_schedule.specs.declared.fault.ScheduleFault.{ScheduleFault}
use Rattle.ats_schedule.specs.declared.fault.ScheduleFault.TheVariants as wrong
use Rattle.ats_text_examples.specs.Ports.{row_with}
use Rattle.ats_text_examples.specs.Runs.{release}
use Rattle.ats_text_examples.specs.Tabled.{first_record, release_header, release_record, row_header}
use Rattle.ats_text_examples.specs.Worked.{way}

-- Records of certificates and schedules with several faults at once, and which of them is named.

-- the fields of a record
abbrev pub Fields : Type 0
Fields = List (List ℕ)

-- what is read of a record behind a row of `b1>b2` and class 6, which is record 2
abbrev pub rows_with : Fields → Result (List Row) CertFault
rows_with fields =
    rows_under way.topology (row_header ∷ first_record (codes "b1>b2") (codes "6") ∷ fields ∷ [])

-- of this port and class, with these fields behind them
abbrev pub row_of : List ℕ → List ℕ → Fields → Fields
row_of port class numbers = port ∷ class ∷ numbers

-- seven numbers, of which one stands at this place
abbrev pub numbers_with : Fields → List ℕ → Fields → Fields
numbers_with before number behind = before ++ number ∷ behind

-- numbers in so many fields
abbrev pub ones : ℕ → Fields
ones count = replicate count (codes "1")

-- the record has all faults, and one less each time: a field too many or too few, a port that is none, a number that is
-- none, and a place that does not come behind that of the row before
pub record RowsAreFirst : Type 0 where
  pub fields : rows_with (row_of (codes "s1>b2") (codes "8") (ones 8)) ≡ Err (row.BadRow 3)
  pub few_fields : rows_with (row_of (codes "s1>b2") (codes "8") (ones 6)) ≡ Err (row.BadRow 3)
  pub port : rows_with (row_of (codes "s1>b2") (codes "8") (ones 7)) ≡ Err (row.UnknownPort 3)
  pub class : rows_with (row_of (codes "s1>b1") (codes "8") (ones 7)) ≡ Err (row.BadNumber 3)
  pub order : rows_with (row_of (codes "s1>b1") (codes "7") (ones 7)) ≡ Err (row.RowOrder 3)
  pub none : rows_with (row_of (codes "b1>b2") (codes "7") (ones 7))
      ≡ Ok (row_with 2 6 11 12 13 14 15 16 17 ∷ row_with 2 7 1 1 1 1 1 1 1 ∷ [])

-- each number of a row is judged before its place
pub record NumbersAreFirst : Type 0 where
  pub no_class : rows_with (row_of (codes "s1>b1") (codes "x") (ones 7)) ≡ Err (row.BadNumber 3)
  pub class_below : rows_with (row_of (codes "s1>b1") (codes "0") (ones 7)) ≡ Err (row.BadNumber 3)
  pub higher : rows_with (row_of (codes "s1>b1") (codes "1") (numbers_with [] (codes "x") (ones 6)))
      ≡ Err (row.BadNumber 3)
  pub equal : rows_with (row_of (codes "s1>b1") (codes "1") (numbers_with (ones 1) (codes "x") (ones 5)))
      ≡ Err (row.BadNumber 3)
  pub bursts : rows_with (row_of (codes "s1>b1") (codes "1") (numbers_with (ones 2) (codes "x") (ones 4)))
      ≡ Err (row.BadNumber 3)
  pub lower : rows_with (row_of (codes "s1>b1") (codes "1") (numbers_with (ones 3) (codes "16161") (ones 3)))
      ≡ Err (row.BadNumber 3)
  pub least : rows_with (row_of (codes "s1>b1") (codes "1") (numbers_with (ones 4) (codes "16161") (ones 2)))
      ≡ Err (row.BadNumber 3)
  pub wait : rows_with (row_of (codes "s1>b1") (codes "1") (numbers_with (ones 5) (codes "x") (ones 1)))
      ≡ Err (row.BadNumber 3)
  pub bound : rows_with (row_of (codes "s1>b1") (codes "1") (numbers_with (ones 6) (codes "x") []))
      ≡ Err (row.BadNumber 3)
  pub greatest : rows_with (row_of (codes "b2>s2") (codes "1")
      (numbers_with (ones 3) (codes "16160") (codes "16160" ∷ ones 2)))
      ≡ Ok (row_with 2 6 11 12 13 14 15 16 17 ∷ row_with 4 1 1 1 1 16160 16160 1 1 ∷ [])

-- a row comes behind another where its port is higher, or its class at the same port: neither the same place once more,
-- nor a higher class at a lower port. A header comes first, and stands alone for a file without rows
pub record PlacesAscend : Type 0 where
  pub again : rows_with (row_of (codes "b1>b2") (codes "6") (ones 7)) ≡ Err (row.RowOrder 3)
  pub lower_class : rows_with (row_of (codes "b1>b2") (codes "5") (ones 7)) ≡ Err (row.RowOrder 3)
  pub lower_port : rows_with (row_of (codes "b1>s1") (codes "7") (ones 7)) ≡ Err (row.RowOrder 3)
  pub higher_port : rows_with (row_of (codes "b2>b1") (codes "1") (ones 7))
      ≡ Ok (row_with 2 6 11 12 13 14 15 16 17 ∷ row_with 3 1 1 1 1 1 1 1 1 ∷ [])
  pub no_records : rows_under way.topology [] ≡ Err (row.BadRow 1)
  pub no_rows : rows_under way.topology (row_header ∷ []) ≡ Ok []
  pub header_twice : rows_under way.topology (row_header ∷ row_header ∷ []) ≡ Err (row.UnknownPort 2)

-- what is read of a record behind a release at 2003 ps, which is record 2
abbrev pub releases_with : Fields → Result (List Release) ScheduleFault
releases_with fields =
    releases_under way (release_header ∷ release_record (codes "2003") (codes "u") (codes "504") ∷ fields ∷ [])

-- the same: a field too many, a name that is none, numbers that are none, octets that make no frame, and a time that
-- goes back
pub record ReleasesAreFirst : Type 0 where
  pub fields : releases_with (codes "x" ∷ codes "w" ∷ codes "y" ∷ codes "z" ∷ []) ≡ Err (wrong.BadRow 3)
  pub few_fields : releases_with (codes "x" ∷ codes "w" ∷ []) ≡ Err (wrong.BadRow 3)
  pub name : releases_with (release_record (codes "x") (codes "w") (codes "y")) ≡ Err (wrong.UnknownName 3)
  pub time : releases_with (release_record (codes "x") (codes "u") (codes "63")) ≡ Err (wrong.BadNumber 3)
  pub octets : releases_with (release_record (codes "2002") (codes "u") (codes "y")) ≡ Err (wrong.BadNumber 3)
  pub size : releases_with (release_record (codes "2002") (codes "u") (codes "63")) ≡ Err (wrong.BadSize 3)
  pub size_over : releases_with (release_record (codes "2002") (codes "u") (codes "2001")) ≡ Err (wrong.BadSize 3)
  pub back : releases_with (release_record (codes "2002") (codes "u") (codes "64")) ≡ Err (wrong.TimeBack 3)
  pub none : releases_with (release_record (codes "2003") (codes "f") (codes "2000"))
      ≡ Ok (release 2003 0 504 ∷ release 2003 2 2000 ∷ [])
  pub size_past : releases_with (release_record (codes "100000000000000001") (codes "u") (codes "63"))
      ≡ Err (wrong.BadSize 3)
  pub past : releases_with (release_record (codes "100000000000000001") (codes "u") (codes "64")) ≡ Err (wrong.Limit 3)
  pub last : releases_with (release_record (codes "100000000000000000") (codes "u") (codes "64"))
      ≡ Ok (release 2003 0 504 ∷ release 100000000000000000 0 64 ∷ [])

-- a time is judged against the release before it, and then by the limit: so it is behind a release that is past the
-- limit itself
pub record TimesAreFirst : Type 0 where
  pub back : release_after way (release 100000000000000005 0 64 ∷ [])
      (release_record (codes "100000000000000004") (codes "u") (codes "64")) ≡ Err (wrong.TimeBack 3)
  pub past : release_after way (release 100000000000000005 0 64 ∷ [])
      (release_record (codes "100000000000000005") (codes "u") (codes "64")) ≡ Err (wrong.Limit 3)
  pub no_records : releases_under way [] ≡ Err (wrong.BadRow 1)
  pub no_releases : releases_under way (release_header ∷ []) ≡ Ok []
  pub header_twice : releases_under way (release_header ∷ release_header ∷ []) ≡ Err (wrong.UnknownName 2)

pub record RecordsAreFirst : Type 0 where
  pub rows : RowsAreFirst
  pub numbers : NumbersAreFirst
  pub places : PlacesAscend
  pub releases : ReleasesAreFirst
  pub times : TimesAreFirst
