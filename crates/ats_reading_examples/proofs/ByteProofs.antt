use Rattle.std.proofs.Common.{refl}
use Rattle.ats_pcap.specs.Capture.{form_of, is_whole, order_of, position_of, record_of}
use Rattle.ats_pcap.specs.Capture.{header_fault as of_header, record_fault as of_record}
use Rattle.ats_pcap.specs.Identity.{address_of, identity_of}
use Rattle.ats_pcap.specs.Numbers.{number16, number32}
use Rattle.ats_reading_examples.specs.Bytes.{CapturesHaveAllBits, FramesHaveLeastOctets, HeadersHaveAllBits}
use Rattle.ats_reading_examples.specs.Bytes.{MagicsHaveAllBits, RecordsHaveAllBits}

-- Captures by computation.

magics_have_all_bits : MagicsHaveAllBits
unfolding form_of of_header is_whole order_of position_of of_record record_of address_of identity_of number16 number32
magics_have_all_bits = record {
  low_micros = refl;
  high_micros = refl;
  low_nanos = refl;
  high_nanos = refl;
  other = refl;
  near_low_micros = refl;
  near_high_micros = refl;
  near_low_nanos = refl;
  near_high_nanos = refl;
  near_other = refl;
}

headers_have_all_bits : HeadersHaveAllBits
unfolding form_of of_header is_whole order_of position_of of_record record_of address_of identity_of number16 number32
headers_have_all_bits = record {
  none = refl;
  second = refl;
  third = refl;
  fourth = refl;
  major = refl;
  minor = refl;
  none_high = refl;
  second_high = refl;
  third_high = refl;
  fourth_high = refl;
  major_high = refl;
  minor_high = refl;
}

records_have_all_bits : RecordsHaveAllBits
unfolding form_of of_header is_whole order_of position_of of_record record_of address_of identity_of number16 number32
records_have_all_bits = record {
  octets_second = refl;
  octets_third = refl;
  octets_fourth = refl;
  seconds_fourth = refl;
  fraction_fourth = refl;
  captured_fourth = refl;
  octets_second_high = refl;
  octets_third_high = refl;
  octets_fourth_high = refl;
  seconds_fourth_high = refl;
  fraction_fourth_high = refl;
  captured_fourth_high = refl;
}

frames_have_least_octets : FramesHaveLeastOctets
unfolding form_of of_header is_whole order_of position_of of_record record_of address_of identity_of number16 number32
frames_have_least_octets = record {
  of_0 = refl;
  below = refl;
  least = refl;
  above = refl;
  short = refl;
  of_64 = refl;
}

pub captures_have_all_bits : CapturesHaveAllBits
captures_have_all_bits = record {
  magics = magics_have_all_bits;
  headers = headers_have_all_bits;
  records = records_have_all_bits;
  octets = frames_have_least_octets;
}
