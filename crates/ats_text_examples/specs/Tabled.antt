use Rattle.std.specs.Prelude.{◌≡◌, ℕ, List, [], ◌∷◌, ◌++◌, codes, Ok, Err}
use Rattle.ats_certificate.specs.declared.row.Row.{Row}
use Rattle.ats_certificate_file.specs.Reading as certificate
use Rattle.ats_certificate_file.specs.Text.{certificate_text}
use Rattle.ats_certificate_file.specs.declared.fault.CertFault.TheVariants as fault
use Rattle.ats_trace.specs.declared.journey.Release.{Release}
use Rattle.ats_schedule.specs.Reading as schedule
use Rattle.ats_schedule.specs.Text.{schedule_text}
use Rattle.ats_schedule.specs.declared.fault.ScheduleFault.TheVariants as wrong
use Rattle.ats_text_examples.specs.Worked.{way}
use Rattle.ats_text_examples.specs.Ports.{row_with}
use Rattle.ats_text_examples.specs.Runs.{release}

-- The records of certificates and schedules over the worked network, and their texts.

-- the records of a file: their fields
abbrev pub Table : Type 0
Table = List (List (List ℕ))

abbrev pub row_header : List (List ℕ)
row_header =
    codes "port" ∷ codes "class" ∷ codes "higher" ∷ codes "equal" ∷ codes "bursts" ∷ codes "lower" ∷ codes "least"
    ∷ codes "wait" ∷ codes "bound" ∷ []

-- the record of a port with this class
abbrev pub first_record : List ℕ → List ℕ → List (List ℕ)
first_record port class =
    port ∷ class ∷ codes "11" ∷ codes "12" ∷ codes "13" ∷ codes "14" ∷ codes "15" ∷ codes "16" ∷ codes "17" ∷ []

abbrev pub second_record : List (List ℕ)
second_record =
    codes "b2>s2" ∷ codes "4" ∷ codes "21" ∷ codes "22" ∷ codes "23" ∷ codes "24" ∷ codes "25" ∷ codes "26"
    ∷ codes "27" ∷ []

abbrev pub two_rows : List Row
two_rows = row_with 2 6 11 12 13 14 15 16 17 ∷ row_with 4 4 21 22 23 24 25 26 27 ∷ []

-- the header, these records, and one that comes behind them
abbrev pub rows_then : Table → Table
rows_then last = row_header ∷ first_record (codes "b1>b2") (codes "6") ∷ second_record ∷ last

-- two rows, as they are read. The header is record 1, so that a fault behind both rows is in
-- record 4: a field too few, a port that is none, a class that is none, and a port that stands before
pub record RowsAreTabled : Type 0 where
  pub read : certificate.rows_under way.topology (rows_then []) ≡ Ok two_rows
  pub no_header : certificate.rows_under way.topology (second_record ∷ []) ≡ Err (fault.BadRow 1)
  pub short : certificate.rows_under way.topology (rows_then ((codes "b2>s2" ∷ codes "5" ∷ []) ∷ []))
      ≡ Err (fault.BadRow 4)
  pub unknown : certificate.rows_under way.topology (rows_then (first_record (codes "s1>b2") (codes "5") ∷ []))
      ≡ Err (fault.UnknownPort 4)
  pub no_class : certificate.rows_under way.topology (rows_then (first_record (codes "s2>b2") (codes "8") ∷ []))
      ≡ Err (fault.BadNumber 4)
  pub back : certificate.rows_under way.topology (rows_then (first_record (codes "b2>b1") (codes "5") ∷ []))
      ≡ Err (fault.RowOrder 4)

abbrev pub release_header : List (List ℕ)
release_header = codes "at_ps" ∷ codes "sender" ∷ codes "octets" ∷ []

abbrev pub release_record : List ℕ → List ℕ → List ℕ → List (List ℕ)
release_record time sender octets = time ∷ sender ∷ octets ∷ []

abbrev pub three_releases : List Release
three_releases = release 1001 2 1402 ∷ release 2003 0 504 ∷ release 2003 1 605 ∷ []

abbrev pub releases_then : Table → Table
releases_then last =
    release_header ∷ release_record (codes "1001") (codes "f") (codes "1402")
    ∷ release_record (codes "2003") (codes "u") (codes "504") ∷ release_record (codes "2003") (codes "v") (codes "605")
    ∷ last

-- three releases, and a fault behind them, which is in record 5: a field too many, a name that is none, a number that
-- is none, octets that make no frame, a time that goes back, and one that is over the limit
pub record ReleasesAreTabled : Type 0 where
  pub read : schedule.releases_under way (releases_then []) ≡ Ok three_releases
  pub no_header : schedule.releases_under way ((codes "at_ps" ∷ codes "octets" ∷ codes "sender" ∷ []) ∷ [])
      ≡ Err (wrong.BadRow 1)
  pub long : schedule.releases_under way
      (releases_then ((codes "2004" ∷ codes "u" ∷ codes "506" ∷ codes "0" ∷ []) ∷ []))
      ≡ Err (wrong.BadRow 5)
  pub unknown : schedule.releases_under way
      (releases_then (release_record (codes "2004") (codes "w") (codes "506") ∷ [])) ≡ Err (wrong.UnknownName 5)
  pub no_number : schedule.releases_under way
      (releases_then (release_record (codes "2 004") (codes "u") (codes "506") ∷ [])) ≡ Err (wrong.BadNumber 5)
  pub no_size : schedule.releases_under way
      (releases_then (release_record (codes "2004") (codes "u") (codes "2001") ∷ [])) ≡ Err (wrong.BadSize 5)
  pub back : schedule.releases_under way
      (releases_then (release_record (codes "2002") (codes "u") (codes "506") ∷ [])) ≡ Err (wrong.TimeBack 5)
  pub over : schedule.releases_under way
      (releases_then (release_record (codes "100000000000000001") (codes "u") (codes "506") ∷ []))
      ≡ Err (wrong.Limit 5)

-- the text of a certificate of both rows, and that of a schedule of the three releases
abbrev pub certificate_bytes : List ℕ
certificate_bytes =
    codes "port,class,higher,equal,bursts,lower,least,wait,bound\n" ++ codes "b1>b2,6,11,12,13,14,15,16,17\n"
    ++ codes "b2>s2,4,21,22,23,24,25,26,27\n"

abbrev pub schedule_bytes : List ℕ
schedule_bytes =
    codes "at_ps,sender,octets\n" ++ codes "1001,f,1402\n" ++ codes "2003,u,504\n" ++ codes "2003,v,605\n"

-- so they are written, and their bytes are read
pub record BytesAreTabled : Type 0 where
  pub rows_written : certificate_text way.topology two_rows ≡ certificate_bytes
  pub rows_read : certificate.rows_of way.topology certificate_bytes ≡ Ok two_rows
  pub releases_written : schedule_text way three_releases ≡ schedule_bytes
  pub releases_read : schedule.releases_of way schedule_bytes ≡ Ok three_releases

-- rows and releases, as they are written and as they are read
pub record TablesAreTold : Type 0 where
  pub rows : RowsAreTabled
  pub releases : ReleasesAreTabled
  pub bytes : BytesAreTabled
