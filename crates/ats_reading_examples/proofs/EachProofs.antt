-- Names, numbers, records and lines, by the definitions.
use Rattle.std.proofs.Common.{◌≡◌, ◌≢◌, ◌↔◌, Bool, true, false, cond, ℕ, List, [], ◌∷◌, Option, Some, None}
use Rattle.std.proofs.Common.{Result, Err, refl}
use Rattle.std.specs.Cmp.Lexicographic.{pointwise}
use Rattle.std.specs.Str.{bytes_eq}
use Rattle.std.proofs.lemmas.Slice.Eq.{bytes_eq-Decides, slice_eq-Decides}
use Rattle.ats_topology.specs.Topology.{DeclaredTopology}
use Rattle.ats_network.specs.Network.{DeclaredNetwork}
use Rattle.ats_streams.specs.declared.fault.StreamFault.{StreamFault}
use Rattle.ats_csv.specs.Reading.{same_fields}
use Rattle.ats_certificate.specs.declared.row.Row.{Row}
use Rattle.ats_certificate_file.specs.Reading.{header as row_header, row_after, row_in, rows_from, rows_under}
use Rattle.ats_certificate_file.specs.declared.fault.CertFault.{CertFault}
use Rattle.ats_certificate_file.specs.declared.fault.CertFault.TheVariants as row
use Rattle.ats_trace.specs.declared.journey.Release.{Release}
use Rattle.ats_schedule.specs.Reading.{header as release_header, release_after, releases_from, releases_under}
use Rattle.ats_schedule.specs.declared.fault.ScheduleFault.{ScheduleFault}
use Rattle.ats_schedule.specs.declared.fault.ScheduleFault.TheVariants as release
use Rattle.ats_num.specs.Failure.{unless}
use Rattle.ats_streams.specs.Fault.{rules_fault}
use Rattle.ats_shape.specs.Reading.{stream_or_fault}
use Rattle.ats_shape.specs.declared.fault.ShapeFault.TheVariants as line
use Rattle.ats_shape.specs.declared.shape.ShapeStream.{ShapeStream}
use Rattle.ats_reading_examples.specs.EachLine.{LinesAreMeant, RequestLinesAreMeant, ShapeLinesAreMeant}
use Rattle.ats_reading_examples.specs.EachLine.{WordsOfRequestsAreMeant}
use Rattle.ats_reading_examples.specs.EachNumber.{NamesAndNumbersAreMeant, NamesAreAny, NumbersAreAny}
use Rattle.ats_reading_examples.specs.EachRecord.{FieldsAreMeant, RecordsAreMeant, ReleasesAreRead, RowsAreRead}
use Rattle.ats_reading_examples.specs.EachRecord.{release_columns, row_columns}

names_are_any : NamesAreAny
names_are_any = record { test = λ text. refl; name = λ text. refl }

numbers_are_any : NumbersAreAny
numbers_are_any = record { value = λ digits. refl; number = λ text. refl; bits = λ octets. refl }

pub names_and_numbers_are_meant : NamesAndNumbersAreMeant
names_and_numbers_are_meant = record { names = names_are_any; numbers = numbers_are_any }

same_is : (some others : List (List ℕ)) → (same_fields some others ≡ true) ↔ (some ≡ others)
unfolding same_fields
same_is some others =
    slice_eq-Decides bytes_eq-Decides some others (pointwise bytes_eq some others) refl

fields_are_meant : FieldsAreMeant
fields_are_meant = record { field = λ fields place. refl; same = same_is }

-- behind any first record but the due one there are no rows
no_row_header : (topology : DeclaredTopology) (first : List (List ℕ)) (records : List (List (List ℕ)))
    → first ≢ row_columns → rows_under topology (first ∷ records) ≡ Err (row.BadRow 1)
unfolding row_header
no_row_header topology first records other = by (same_fields first row_header) refl
  where
    by : (same : Bool) → same_fields first row_header ≡ same
        → (let r : Result (List Row) CertFault = cond same (rows_from topology [] 2 records) (Err (row.BadRow 1)) in r)
        ≡ Err (row.BadRow 1)
    by true is = absurd (other ((same_is first row_columns).0 is))
    by false is = refl

rows_are_read : RowsAreRead
unfolding row_header row_after row_in same_fields
rows_are_read = record {
  file = λ topology bytes. refl;
  no_record = λ topology. refl;
  header = λ topology records. refl;
  no_header = no_row_header;
  end = λ topology rows n. refl;
  next = λ topology rows n fields records. refl;
  after = λ topology rows n fields. refl;
  first = λ read. refl;
  later = λ last read. refl;
  row = λ topology n fields. refl;
}

-- nor releases
no_release_header : (network : DeclaredNetwork) (first : List (List ℕ)) (records : List (List (List ℕ)))
    → first ≢ release_columns → releases_under network (first ∷ records) ≡ Err (release.BadRow 1)
unfolding release_header
no_release_header network first records other = by (same_fields first release_header) refl
  where
    by : (same : Bool) → same_fields first release_header ≡ same
        → (let r : Result (List Release) ScheduleFault = cond same (releases_from network [] records)
        (Err (release.BadRow 1)) in r) ≡ Err (release.BadRow 1)
    by true is = absurd (other ((same_is first release_columns).0 is))
    by false is = refl

releases_are_read : ReleasesAreRead
unfolding release_header release_after same_fields
releases_are_read = record {
  file = λ network bytes. refl;
  no_record = λ network. refl;
  header = λ network records. refl;
  no_header = no_release_header;
  end = λ network releases. refl;
  next = λ network releases fields records. refl;
  sender = λ network text. refl;
  before = λ releases. refl;
  none_before = refl;
  one_before = λ r. refl;
  ports = λ network releases sender. refl;
  release = λ network releases fields. refl;
}

pub records_are_meant : RecordsAreMeant
records_are_meant = record { fields = fields_are_meant; rows = rows_are_read; releases = releases_are_read }

-- the two ways to tell a broken rule are one
ruled_is : (n : ℕ) (s : ShapeStream) (fault : Option StreamFault)
    → stream_or_fault n s fault ≡ unless (line.Stream n) fault s
ruled_is n s None = refl
ruled_is n s (Some fault) = refl

shape_lines_are_meant : ShapeLinesAreMeant
shape_lines_are_meant = record {
  residence = λ n words. refl;
  stream = λ n words. refl;
  frame = λ n words. refl;
  declared = λ name rate burst least most. refl;
  ruled = λ n name rate burst least most. ruled_is n _ (rules_fault rate burst least most);
  arrived = λ at octets stream name. refl;
}

words_of_requests_are_meant : WordsOfRequestsAreMeant
words_of_requests_are_meant = record {
  name = λ n words k. refl;
  number = λ n words k. refl;
  class = λ n words. refl;
  admit = λ n words. refl;
}

request_lines_are_meant : RequestLinesAreMeant
request_lines_are_meant = record {
  words = words_of_requests_are_meant;
  stream = λ path name class rate burst least most deadline. refl;
  lowest = λ stream. refl;
  given = λ class stream. refl;
  admit = λ network n words. refl;
  withdraw = λ n words. refl;
  verb = λ network n words. refl;
  counted = λ network before n words. refl;
}

pub lines_are_meant : LinesAreMeant
lines_are_meant = record { shapes = shape_lines_are_meant; requests = request_lines_are_meant }
