use Rattle.std.proofs.Common.{refl}
use Rattle.ats_pcap.specs.Capture.{form_of, is_whole, order_of, position_of, record_of}
use Rattle.ats_pcap.specs.Capture.{header_fault as of_header, record_fault as of_record}
use Rattle.ats_pcap.specs.Identity.{address_of, identity_of}
use Rattle.ats_pcap.specs.Numbers.{number16, number32}
use Rattle.ats_first_examples.specs.Captures.{CapturesAreFirst, FormsAreFour, HeadersAreFirst, RecordsAreFirst}
use Rattle.ats_first_examples.specs.Captures.{ReleasesAreFirst}

-- Captures by computation.

headers_are_first : HeadersAreFirst
unfolding form_of of_header is_whole order_of position_of of_record record_of address_of identity_of number16 number32
headers_are_first = record {
  magic = refl;
  version = refl;
  minor = refl;
  link = refl;
  none = refl;
  later_format = refl;
  at_magic = refl;
  before_magic = refl;
  at_version = refl;
  before_version = refl;
  at_link = refl;
  before_link = refl;
}

forms_are_four : FormsAreFour
unfolding form_of of_header is_whole order_of position_of of_record record_of address_of identity_of number16 number32
forms_are_four = record {
  micros_low = refl;
  nanos_low = refl;
  micros_high = refl;
  nanos_high = refl;
}

records_are_first : RecordsAreFirst
unfolding form_of of_header is_whole order_of position_of of_record record_of address_of identity_of number16 number32
records_are_first = record {
  long = refl;
  before_long = refl;
  longest = refl;
  earlier = refl;
  last = refl;
  last_long = refl;
  past = refl;
  past_long = refl;
  end = refl;
}

releases_are_first : ReleasesAreFirst
unfolding form_of of_header is_whole order_of position_of of_record record_of address_of identity_of number16 number32
releases_are_first = record {
  last = refl;
  past = refl;
  wider = refl;
  late = refl;
  longest = refl;
  late_longest = refl;
  oversize = refl;
  unidentified = refl;
}

pub captures_are_first : CapturesAreFirst
captures_are_first = record {
  headers = headers_are_first;
  forms = forms_are_four;
  records = records_are_first;
  releases = releases_are_first;
}
