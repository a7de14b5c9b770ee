use Rattle.std.proofs.Common.{refl}
use Rattle.std.specs.Fmt.{digits}
use Rattle.ats_fault_examples.specs.Files.{CertificateFaultsAreWritten, ScheduleFaultsAreWritten}
use Rattle.ats_fault_examples.specs.Files.{RequestFaultsAreWritten, ShapeFaultsAreWritten, CaptureFaultsAreWritten}
use Rattle.ats_fault_examples.specs.Files.{MakingFaultsAreWritten, FileFaultsAreWritten}

-- Words of faults of the other files by computation.

certificate_faults_are_written : CertificateFaultsAreWritten
unfolding digits
certificate_faults_are_written = record {
  bad_row = refl;
  unknown_port = refl;
  bad_number = refl;
  row_order = refl;
}

schedule_faults_are_written : ScheduleFaultsAreWritten
unfolding digits
schedule_faults_are_written = record {
  bad_row = refl;
  unknown_name = refl;
  bad_number = refl;
  bad_size = refl;
  time_back = refl;
  limit = refl;
}

request_faults_are_written : RequestFaultsAreWritten
unfolding digits
request_faults_are_written = record {
  bad_line = refl;
  unknown_node = refl;
  no_path = refl;
  bad_class = refl;
  bad_rate = refl;
  bad_sizes = refl;
  short_burst = refl;
  stream_limit = refl;
  limit = refl;
}

shape_faults_are_written : ShapeFaultsAreWritten
unfolding digits
shape_faults_are_written = record {
  bad_line = refl;
  name_twice = refl;
  bad_rate = refl;
  bad_sizes = refl;
  short_burst = refl;
  stream_limit = refl;
  unknown_name = refl;
  time_back = refl;
  limit = refl;
}

capture_faults_are_written : CaptureFaultsAreWritten
unfolding digits
capture_faults_are_written = record {
  bad_magic = refl;
  pcapng = refl;
  bad_version = refl;
  bad_link = refl;
  too_long = refl;
  cut_short = refl;
  limit = refl;
  failed = refl;
  file_too_long = refl;
  of_bytes = refl;
  joined = refl;
}

making_faults_are_written : MakingFaultsAreWritten
making_faults_are_written = record {
  no_stream = refl;
  limit = refl;
}

pub file_faults_are_written : FileFaultsAreWritten
file_faults_are_written = record {
  certificate = certificate_faults_are_written;
  schedule = schedule_faults_are_written;
  requests = request_faults_are_written;
  shape = shape_faults_are_written;
  capture = capture_faults_are_written;
  making = making_faults_are_written;
}
