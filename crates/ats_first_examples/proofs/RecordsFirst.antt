use Rattle.std.proofs.Common.{refl}
use Rattle.ats_csv.specs.Reading.{same_fields}
use Rattle.ats_certificate_file.specs.Reading.{header, row_in, row_after}
use Rattle.ats_schedule.specs.Reading.{header as release_header, release_after}
use Rattle.ats_first_examples.specs.Records.{NumbersAreFirst, PlacesAscend, RecordsAreFirst, ReleasesAreFirst}
use Rattle.ats_first_examples.specs.Records.{RowsAreFirst, TimesAreFirst}

-- Records by computation.

rows_are_first : RowsAreFirst
unfolding same_fields header release_header row_in row_after release_after
rows_are_first = record {
  fields = refl;
  few_fields = refl;
  port = refl;
  class = refl;
  order = refl;
  none = refl;
}

numbers_are_first : NumbersAreFirst
unfolding same_fields header release_header row_in row_after release_after
numbers_are_first = record {
  no_class = refl;
  class_below = refl;
  higher = refl;
  equal = refl;
  bursts = refl;
  lower = refl;
  least = refl;
  wait = refl;
  bound = refl;
  greatest = refl;
}

places_ascend : PlacesAscend
unfolding same_fields header release_header row_in row_after release_after
places_ascend = record {
  again = refl;
  lower_class = refl;
  lower_port = refl;
  higher_port = refl;
  no_records = refl;
  no_rows = refl;
  header_twice = refl;
}

releases_are_first : ReleasesAreFirst
unfolding same_fields header release_header row_in row_after release_after
releases_are_first = record {
  fields = refl;
  few_fields = refl;
  name = refl;
  time = refl;
  octets = refl;
  size = refl;
  size_over = refl;
  back = refl;
  none = refl;
  size_past = refl;
  past = refl;
  last = refl;
}

times_are_first : TimesAreFirst
unfolding same_fields header release_header row_in row_after release_after
times_are_first = record {
  back = refl;
  past = refl;
  no_records = refl;
  no_releases = refl;
  header_twice = refl;
}

pub records_are_first : RecordsAreFirst
records_are_first = record {
  rows = rows_are_first;
  numbers = numbers_are_first;
  places = places_ascend;
  releases = releases_are_first;
  times = times_are_first;
}
