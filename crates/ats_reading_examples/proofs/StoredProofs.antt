use Rattle.std.proofs.Common.{refl}
use Rattle.ats_pcap.specs.Capture.{form_of, is_whole, order_of, position_of, record_of}
use Rattle.ats_pcap.specs.Capture.{header_fault as of_header, record_fault as of_record}
use Rattle.ats_pcap.specs.Identity.{address_of, identity_of}
use Rattle.ats_pcap.specs.Numbers.{number16, number32}
use Rattle.ats_reading_examples.specs.Stored.{FractionsAreAny, OctetsAreOfTheFrame, RecordsAreAsWritten}

-- Records of captures by computation.

octets_are_of_the_frame : OctetsAreOfTheFrame
unfolding form_of of_header is_whole order_of position_of of_record record_of address_of identity_of number16 number32
octets_are_of_the_frame = record {
  one_more = refl;
  one_less = refl;
  more_of_least = refl;
  one_more_high = refl;
  one_less_high = refl;
}

fractions_are_any : FractionsAreAny
unfolding form_of of_header is_whole order_of position_of of_record record_of address_of identity_of number16 number32
fractions_are_any = record { below = refl; second = refl; greatest = refl }

pub records_are_as_written : RecordsAreAsWritten
records_are_as_written = record { octets = octets_are_of_the_frame; fractions = fractions_are_any }
