use Rattle.std.proofs.Common.{refl}
use Rattle.ats_csv.specs.Reading.{same_fields}
use Rattle.ats_schedule.specs.Reading.{header, release_after}
use Rattle.ats_text_examples.specs.Tabled.{ReleasesAreTabled, TablesAreTold}
use Rattle.ats_text_examples.proofs.BytesTabled.{bytes_are_tabled}
use Rattle.ats_text_examples.proofs.RowsTabled.{rows_are_tabled}

-- Releases of schedules by computation.

releases_are_tabled : ReleasesAreTabled
unfolding header release_after same_fields
releases_are_tabled = record {
  read = refl;
  no_header = refl;
  long = refl;
  unknown = refl;
  no_number = refl;
  no_size = refl;
  back = refl;
  over = refl;
}

pub tables_are_told : TablesAreTold
tables_are_told = record { rows = rows_are_tabled; releases = releases_are_tabled; bytes = bytes_are_tabled }
