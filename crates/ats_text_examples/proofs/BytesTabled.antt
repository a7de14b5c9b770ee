use Rattle.std.proofs.Common.{◌≡◌, refl}
use Rattle.std.specs.Prelude.{Ok}
use Rattle.std.specs.Fmt.{digits}
use Rattle.csv.specs.Machine.{next_record}
use Rattle.csv.specs.Reading.{records_from, strip_bom}
use Rattle.ats_csv.specs.Reading.{records_of, same_fields}
use Rattle.ats_certificate_file.specs.Reading.{header, row_in, row_after, rows_of}
use Rattle.ats_certificate_file.specs.Text.{certificate_text}
use Rattle.ats_schedule.specs.Reading.{header as release_header, release_after, releases_of}
use Rattle.ats_schedule.specs.Text.{schedule_text}
use Rattle.ats_text_examples.specs.Worked.{way}
use Rattle.ats_text_examples.specs.Tabled.{certificate_bytes, schedule_bytes, three_releases, two_rows, BytesAreTabled}

-- Bytes of certificates and schedules by computation.

rows_are_written : certificate_text way.topology two_rows ≡ certificate_bytes
unfolding digits header
rows_are_written = refl

rows_are_read : rows_of way.topology certificate_bytes ≡ Ok two_rows
unfolding next_record records_from strip_bom records_of same_fields header row_in row_after
rows_are_read = refl

releases_are_written : schedule_text way three_releases ≡ schedule_bytes
unfolding digits release_header
releases_are_written = refl

releases_are_read : releases_of way schedule_bytes ≡ Ok three_releases
unfolding next_record records_from strip_bom records_of same_fields release_header release_after
releases_are_read = refl

pub bytes_are_tabled : BytesAreTabled
bytes_are_tabled = record {
  rows_written = rows_are_written;
  rows_read = rows_are_read;
  releases_written = releases_are_written;
  releases_read = releases_are_read;
}
