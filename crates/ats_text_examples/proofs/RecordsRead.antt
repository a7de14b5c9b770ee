use Rattle.std.proofs.Common.{refl}
use Rattle.ats_pcap.specs.Capture.{form_of, is_whole, order_of, position_of, record_of}
use Rattle.ats_pcap.specs.Capture.{header_fault as of_header, record_fault as of_record}
use Rattle.ats_pcap.specs.Identity.{address_of, identity_of}
use Rattle.ats_pcap.specs.Numbers.{number16, number32}
use Rattle.ats_text_examples.specs.Captured.{CapturesAreRead, HeadersAreJudged, IdentitiesAreBoth, StreamsAreIdentified}
use Rattle.ats_text_examples.specs.Captured.{TagsAreTold}

-- Captures by computation.

identities_are_both : IdentitiesAreBoth
identities_are_both = record {
  both = refl;
  address_alone = refl;
  vlan_alone = refl;
  neither = refl;
  turned = refl;
  none_declared = refl;
}

streams_are_identified : StreamsAreIdentified
streams_are_identified = record {
  first = refl;
  second = refl;
  third = refl;
  elsewhere = refl;
  there = refl;
  no_stream = refl;
  no_tag = refl;
  after_untagged = refl;
}

tags_are_told : TagsAreTold
unfolding form_of of_header is_whole order_of position_of of_record record_of address_of identity_of number16 number32
tags_are_told = record { tagged = refl; packet = refl; service = refl }

headers_are_judged : HeadersAreJudged
unfolding form_of of_header is_whole order_of position_of of_record record_of address_of identity_of number16 number32
headers_are_judged = record {
  none = refl;
  link = refl;
  major = refl;
  minor = refl;
  later_format = refl;
  no_magic = refl;
}

pub captures_are_read : CapturesAreRead
unfolding form_of of_header is_whole order_of position_of of_record record_of address_of identity_of number16 number32
captures_are_read = record {
  low = refl;
  high = refl;
  cut = refl;
  tags = tags_are_told;
  headers = headers_are_judged;
  identities = identities_are_both;
  streams = streams_are_identified;
}
