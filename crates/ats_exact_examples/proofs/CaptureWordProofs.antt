-- Each word by its definition.
use Rattle.std.proofs.Common.{refl}
use Rattle.ats_pcap.specs.Capture.{form_of, header_fault, is_whole, order_of, position_of, record_fault, record_of}
use Rattle.ats_pcap.specs.Identity.{address_of, identity_of}
use Rattle.ats_pcap.specs.Numbers.{number16, number32}
use Rattle.ats_capture.specs.Reading.{records_in}
use Rattle.ats_port_capture.specs.Capture.{header, record_bytes}
use Rattle.ats_port_capture.specs.Frame.{tagged, untagged}
use Rattle.ats_port_capture.specs.Numbers.{high_first16, high_first32, high_first48, low_first16, low_first32}
use Rattle.ats_exact_examples.specs.CaptureWords.{CaptureBytesAreMeant, CapturesAreMeant, HeadersAreMeant}
use Rattle.ats_exact_examples.specs.CaptureWords.{IdentitiesAreMeant, RecordsAreMeant, TrafficIsMeant}

headers_are_meant : HeadersAreMeant
unfolding number16 number32 order_of form_of header_fault
headers_are_meant = record {
  low32 = λ place bytes. refl;
  high32 = λ place bytes. refl;
  low16 = λ place bytes. refl;
  high16 = λ place bytes. refl;
  magic = λ n. refl;
  order = λ bytes. refl;
  form = λ bytes. refl;
  micros = refl;
  nanos = refl;
  first = λ bytes. refl;
  second = λ bytes. refl;
  third = λ bytes. refl;
  all = λ bytes. refl;
}

records_are_meant : RecordsAreMeant
unfolding record_of record_fault is_whole position_of records_in
records_are_meant = record {
  captured = λ form bytes. refl;
  made = λ form bytes. refl;
  refused = λ form before there bytes. refl;
  whole = λ form there bytes. refl;
  next = λ form reach. refl;
  no_turn = λ form reach. refl;
  turn = λ turns form reach. refl;
  end = λ bytes. refl;
  complete = λ end. refl;
  records = λ bytes. refl;
  in_file = λ bytes. refl;
}

identities_are_meant : IdentitiesAreMeant
unfolding address_of identity_of
identities_are_meant = record {
  address = λ bytes. refl;
  vlan = λ bytes. refl;
  identity = λ bytes. refl;
}

traffic_is_meant : TrafficIsMeant
traffic_is_meant = record {
  begun = λ network station stream. refl;
  no_identity = λ network station. refl;
  identity = λ network station identity. refl;
  ports = λ network releases sender. refl;
  release = λ number before ports nanos sender octets. refl;
  unidentified = λ network nanos octets t. refl;
  of_stream = λ network nanos octets sender t. refl;
  no_record = λ network station first latest t. refl;
  next_record = λ network station first latest t r records. refl;
  none = λ network station. refl;
  some = λ network station r records. refl;
}

captures_are_meant : CapturesAreMeant
unfolding low_first16 low_first32 high_first16 high_first32 high_first48 header record_bytes tagged untagged
captures_are_meant = record {
  low16 = λ n. refl;
  low32 = λ n. refl;
  high16 = λ n. refl;
  high32 = λ n. refl;
  high48 = λ n. refl;
  kept = λ nanos octets kept. refl;
  tagged = λ address vlan class. refl;
  untagged = λ sender. refl;
  with_identity = λ identity sender class. refl;
  without = λ sender class. refl;
  identity = λ network sender. refl;
  sent = λ network run t. refl;
  file = λ network run sent. refl;
}

pub capture_bytes_are_meant : CaptureBytesAreMeant
capture_bytes_are_meant = record {
  headers = headers_are_meant;
  records = records_are_meant;
  identities = identities_are_meant;
  traffic = traffic_is_meant;
  captures = captures_are_meant;
}
