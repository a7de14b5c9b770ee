use Rattle.std.proofs.Common.{refl}
use Rattle.std.specs.Fmt.{digits}
use Rattle.csv.specs.Machine.{next_record}
use Rattle.csv.specs.Reading.{records_from, strip_bom}
use Rattle.ats_csv.specs.Reading.{records_of, same_fields}
use Rattle.ats_certificate_file.specs.Reading.{header, row_in, row_after}
use Rattle.ats_schedule.specs.Reading.{header as release_header, release_after}
use Rattle.ats_file_examples.specs.Records.{ReleasesAreRead, RowsAreRead}

-- A certificate and a schedule by computation.

pub rows_are_read : RowsAreRead
unfolding digits next_record records_from strip_bom records_of same_fields header row_in row_after
rows_are_read = record {
  read = refl;
  written = refl;
  least = refl;
  back = refl;
  port = refl;
  number = refl;
}

pub releases_are_read : ReleasesAreRead
unfolding digits next_record records_from strip_bom records_of same_fields release_header release_after
releases_are_read = record {
  read = refl;
  written = refl;
  back = refl;
  name = refl;
  size = refl;
}
