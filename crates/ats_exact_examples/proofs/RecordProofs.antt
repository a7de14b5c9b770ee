use Rattle.std.proofs.Common.{refl}
use Rattle.ats_csv.specs.Reading.{same_fields}
use Rattle.ats_certificate_file.specs.Reading.{header, row_in, row_after}
use Rattle.ats_schedule.specs.Reading.{header as release_header, release_after}
use Rattle.ats_exact_examples.specs.Records.{FirstFaultsAreNamed, FirstReleaseIsNamed, FirstRowIsNamed}

-- Records by computation.

first_row_is_named : FirstRowIsNamed
unfolding same_fields header row_in row_after
first_row_is_named = record {
  width = refl;
  port = refl;
  number = refl;
  order = refl;
}

first_release_is_named : FirstReleaseIsNamed
unfolding same_fields release_header release_after
first_release_is_named = record {
  width = refl;
  name = refl;
  number = refl;
  size = refl;
  back = refl;
  limit = refl;
}

pub first_faults_are_named : FirstFaultsAreNamed
first_faults_are_named = record {
  rows = first_row_is_named;
  releases = first_release_is_named;
}
