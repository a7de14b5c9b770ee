use Rattle.std.proofs.Common.{refl}
use Rattle.ats_csv.specs.Reading.{same_fields}
use Rattle.ats_certificate_file.specs.Reading.{header, row_in, row_after}
use Rattle.ats_text_examples.specs.Tabled.{RowsAreTabled}

-- Rows of certificates by computation.

pub rows_are_tabled : RowsAreTabled
unfolding header row_in row_after same_fields
rows_are_tabled = record {
  read = refl;
  no_header = refl;
  short = refl;
  unknown = refl;
  no_class = refl;
  back = refl;
}
