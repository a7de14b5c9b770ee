use Rattle.std.proofs.Common.{refl}
use Rattle.ats_certificate_file.specs.Reading.{header as row_header}
use Rattle.ats_schedule.specs.Reading.{header as release_header}
use Rattle.ats_plain_file_law.specs.Tables.{CertificatesAreRead, SchedulesAreRead, TableHeadsAreRead}

-- With which columns certificates and schedules begin.

certificates : CertificatesAreRead
unfolding row_header
certificates = record {
  first = λ topology first records. refl;
}

schedules : SchedulesAreRead
unfolding release_header
schedules = record {
  first = λ network first records. refl;
}

pub table_heads_are_read : TableHeadsAreRead
table_heads_are_read = record { certificates = certificates; schedules = schedules }
