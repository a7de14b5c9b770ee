use Rattle.std.proofs.Common.{refl}
use Rattle.ats_pcap.specs.Capture.{form_of, is_whole, order_of, position_of, record_of}
use Rattle.ats_pcap.specs.Capture.{header_fault as of_header, record_fault as of_record}
use Rattle.ats_pcap.specs.Identity.{address_of, identity_of}
use Rattle.ats_pcap.specs.Numbers.{number16, number32}
use Rattle.ats_file_examples.specs.Captured.{CaptureIsCounted}

-- A capture by computation.

pub capture_is_counted : CaptureIsCounted
unfolding form_of of_header is_whole order_of position_of of_record record_of address_of identity_of number16 number32
capture_is_counted = record {
  read = refl;
  no_snap = refl;
  short_snap = refl;
  cut = refl;
  long = refl;
  no_bytes = refl;
  no_magic = refl;
}
