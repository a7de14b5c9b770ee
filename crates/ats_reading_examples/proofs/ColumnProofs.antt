use Rattle.std.proofs.Common.{refl}
use Rattle.ats_csv.specs.Reading.{same_fields}
use Rattle.ats_certificate_file.specs.Reading.{header as row_header}
use Rattle.ats_schedule.specs.Reading.{header as release_header}
use Rattle.ats_reading_examples.specs.Columns.{ColumnsAreExact, ReleaseColumnsAreExact, RowColumnsAreExact}

-- Headers by computation.

row_columns_are_exact : RowColumnsAreExact
unfolding same_fields row_header
row_columns_are_exact = record {
  behind = refl;
  records_behind = refl;
  before = refl;
  turned = refl;
  record_turned = refl;
  fewer = refl;
}

release_columns_are_exact : ReleaseColumnsAreExact
unfolding same_fields release_header
release_columns_are_exact = record {
  behind = refl;
  records_behind = refl;
  before = refl;
  turned = refl;
  fewer = refl;
}

pub columns_are_exact : ColumnsAreExact
columns_are_exact = record { rows = row_columns_are_exact; releases = release_columns_are_exact }
