use Rattle.std.specs.Prelude.{◌≡◌, ℕ, true, false, List, [], ◌∷◌, ◌++◌, codes, Option, Some, None, Ok, Err}
use Rattle.ats_streams.specs.Stream.{DeclaredStream, declared_stream}
use Rattle.ats_network.specs.Network.{DeclaredNetwork, declared_network}
use Rattle.ats_network.specs.Pushes.{is_identity}
use Rattle.ats_pcap.specs.Capture.{records_of}
use Rattle.ats_pcap.specs.declared.fault.CaptureFault.TheVariants.{CutShort, BadLink, BadMagic, BadVersion, PcapNg}
use Rattle.ats_pcap.specs.declared.record.Record.{Record}
use Rattle.ats_capture.specs.Traffic.{stream_of}
use Rattle.ats_text_examples.specs.Worked.{u, way}

-- The bytes of two captures, their records, and the streams that these belong to.

-- a header of 24 bytes: magic number, version 2.4, three fields without a meaning, and link type 1. With the low byte
-- of each number first, and fractions of seconds in microseconds
abbrev pub low_header : List ℕ
low_header =
    0xD4 ∷ 0xC3 ∷ 0xB2 ∷ 0xA1 ∷ 2 ∷ 0 ∷ 4 ∷ 0 ∷ 91 ∷ 92 ∷ 93 ∷ 94
    ∷ 95 ∷ 96 ∷ 97 ∷ 98 ∷ 99 ∷ 100 ∷ 101 ∷ 102 ∷ 1 ∷ 0 ∷ 0 ∷ 0 ∷ []

-- with the high byte first, and fractions in nanoseconds
abbrev pub high_header : List ℕ
high_header =
    0xA1 ∷ 0xB2 ∷ 0x3C ∷ 0x4D ∷ 0 ∷ 2 ∷ 0 ∷ 4 ∷ 91 ∷ 92 ∷ 93 ∷ 94
    ∷ 95 ∷ 96 ∷ 97 ∷ 98 ∷ 99 ∷ 100 ∷ 101 ∷ 102 ∷ 0 ∷ 0 ∷ 0 ∷ 1 ∷ []

-- a record: seconds, the fraction, how many bytes were captured, how many the frame has, and those that were captured.
-- The frame has two addresses, that of its destination first, and a tag with the VLAN identifier in its low 12 bits. Of
-- the second frame the tag was not captured, and it has fewer octets than the least frame
abbrev pub low_records : List ℕ
low_records =
    0x04 ∷ 0x03 ∷ 0x02 ∷ 0x01 ∷ 0x07 ∷ 0x06 ∷ 0x05 ∷ 0x00 ∷ 18 ∷ 0 ∷ 0 ∷ 0 ∷ 0x02 ∷ 0x01 ∷ 0 ∷ 0
    ∷ 0x0A ∷ 0x0B ∷ 0x0C ∷ 0x0D ∷ 0x0E ∷ 0x0F ∷ 0x1A ∷ 0x1B ∷ 0x1C ∷ 0x1D ∷ 0x1E ∷ 0x1F
    ∷ 0x81 ∷ 0x00 ∷ 0xB2 ∷ 0xC3 ∷ 0x08 ∷ 0x00
    ∷ 0x05 ∷ 0x03 ∷ 0x02 ∷ 0x01 ∷ 0x0A ∷ 0x09 ∷ 0x08 ∷ 0x00 ∷ 14 ∷ 0 ∷ 0 ∷ 0 ∷ 20 ∷ 0 ∷ 0 ∷ 0
    ∷ 0x0A ∷ 0x0B ∷ 0x0C ∷ 0x0D ∷ 0x0E ∷ 0x0F ∷ 0x1A ∷ 0x1B ∷ 0x1C ∷ 0x1D ∷ 0x1E ∷ 0x1F
    ∷ 0x81 ∷ 0x00 ∷ []

abbrev pub high_records : List ℕ
high_records =
    0x21 ∷ 0x22 ∷ 0x23 ∷ 0x24 ∷ 0x05 ∷ 0x06 ∷ 0x07 ∷ 0x08 ∷ 0 ∷ 0 ∷ 0 ∷ 17 ∷ 0 ∷ 0 ∷ 0x02 ∷ 0x03
    ∷ 0x2A ∷ 0x2B ∷ 0x2C ∷ 0x2D ∷ 0x2E ∷ 0x2F ∷ 0x3A ∷ 0x3B ∷ 0x3C ∷ 0x3D ∷ 0x3E ∷ 0x3F
    ∷ 0x81 ∷ 0x00 ∷ 0x12 ∷ 0x34 ∷ 0x08
    ∷ 0x21 ∷ 0x22 ∷ 0x23 ∷ 0x25 ∷ 0x00 ∷ 0x00 ∷ 0x00 ∷ 0x09 ∷ 0 ∷ 0 ∷ 0 ∷ 16 ∷ 0 ∷ 0 ∷ 0x03 ∷ 0x04
    ∷ 0x4A ∷ 0x4B ∷ 0x4C ∷ 0x4D ∷ 0x4E ∷ 0x4F ∷ 0x5A ∷ 0x5B ∷ 0x5C ∷ 0x5D ∷ 0x5E ∷ 0x5F
    ∷ 0x81 ∷ 0x00 ∷ 0xFF ∷ 0xFE ∷ []

-- 16,909,060 and 16,909,061 s; 329,223 and 526,602 us; 258 octets, and the least of 60, each with four of a check
-- sequence
abbrev pub low_read : List Record
low_read =
    record { nanos = 16909060329223000; octets = 262; identity = Some (0x0A0B0C0D0E0F, 0x2C3) }
    ∷ record { nanos = 16909061526602000; octets = 64; identity = None } ∷ []

-- 555,885,348 and 555,885,349 s; 84,281,096 and 9 ns; 515 and 772 octets
abbrev pub high_read : List Record
high_read =
    record { nanos = 555885348084281096; octets = 519; identity = Some (0x2A2B2C2D2E2F, 0x234) }
    ∷ record { nanos = 555885349000000009; octets = 776; identity = Some (0x4A4B4C4D4E4F, 0xFFE) } ∷ []

-- a record of a frame of 60 octets, of which 16 bytes were captured: two addresses, and these four
abbrev pub record_with : ℕ → ℕ → ℕ → ℕ → List ℕ
record_with b c d e =
    0x04 ∷ 0x03 ∷ 0x02 ∷ 0x01 ∷ 0x07 ∷ 0x06 ∷ 0x05 ∷ 0x00 ∷ 16 ∷ 0 ∷ 0 ∷ 0 ∷ 60 ∷ 0 ∷ 0 ∷ 0
    ∷ 0x0A ∷ 0x0B ∷ 0x0C ∷ 0x0D ∷ 0x0E ∷ 0x0F ∷ 0x1A ∷ 0x1B ∷ 0x1C ∷ 0x1D ∷ 0x1E ∷ 0x1F ∷ b ∷ c ∷ d ∷ e ∷ []

abbrev pub read_with : Option (ℕ × ℕ) → List Record
read_with identity = record { nanos = 16909060329223000; octets = 64; identity = identity } ∷ []

-- a frame has an identity where it has a tag 81 00: a packet of IP has none, nor has one with a service tag
pub record TagsAreTold : Type 0 where
  pub tagged : records_of (low_header ++ record_with 0x81 0x00 0x02 0xC3)
      ≡ Ok (read_with (Some (0x0A0B0C0D0E0F, 0x2C3)))
  pub packet : records_of (low_header ++ record_with 0x08 0x00 0x45 0x00) ≡ Ok (read_with None)
  pub service : records_of (low_header ++ record_with 0x88 0xA8 0x02 0xC3) ≡ Ok (read_with None)

-- a header with this version and this link type
abbrev pub header_of : ℕ → ℕ → ℕ → List ℕ
header_of major minor link =
    0xD4 ∷ 0xC3 ∷ 0xB2 ∷ 0xA1 ∷ major ∷ 0 ∷ minor ∷ 0 ∷ 91 ∷ 92 ∷ 93 ∷ 94
    ∷ 95 ∷ 96 ∷ 97 ∷ 98 ∷ 99 ∷ 100 ∷ 101 ∷ 102 ∷ link ∷ 0 ∷ 0 ∷ 0 ∷ []

-- other headers have faults
pub record HeadersAreJudged : Type 0 where
  pub none : records_of (header_of 2 4 1) ≡ Ok []
  pub link : records_of (header_of 2 4 113) ≡ Err BadLink
  pub major : records_of (header_of 3 4 1) ≡ Err BadVersion
  pub minor : records_of (header_of 2 3 1) ≡ Err BadVersion
  pub later_format : records_of (0x0A ∷ 0x0D ∷ 0x0D ∷ 0x0A ∷ []) ≡ Err PcapNg
  pub no_magic : records_of (0xD4 ∷ 0xC3 ∷ 0xB2 ∷ 0xA2 ∷ []) ≡ Err BadMagic

-- an address and a VLAN identifier are those that are declared where both are
pub record IdentitiesAreBoth : Type 0 where
  pub both : is_identity (0xA1, 7) (Some (0xA1, 7)) ≡ true
  pub address_alone : is_identity (0xA1, 7) (Some (0xA1, 8)) ≡ false
  pub vlan_alone : is_identity (0xA1, 7) (Some (0xA2, 7)) ≡ false
  pub neither : is_identity (0xA1, 7) (Some (0xA2, 8)) ≡ false
  pub turned : is_identity (0xA1, 7) (Some (7, 0xA1)) ≡ false
  pub none_declared : is_identity (0xA1, 7) None ≡ false

-- a stream of the worked network with this name, path, address and VLAN identifier
abbrev pub tagged : List ℕ → List ℕ → ℕ → ℕ → DeclaredStream
tagged name path address vlan =
    declared_stream name path (6 ∷ 6 ∷ 6 ∷ []) 20000000 9001 64 1000 900000 (Some (address, vlan))

-- three streams from the first station, of which two have one address and two have one VLAN identifier, and one from
-- the second
abbrev pub tagged_way : DeclaredNetwork
tagged_way = declared_network way.topology
    (tagged (codes "a") (0 ∷ 2 ∷ 4 ∷ []) 0xA1 7 ∷ tagged (codes "b") (0 ∷ 2 ∷ 4 ∷ []) 0xA1 8
    ∷ tagged (codes "c") (0 ∷ 2 ∷ 4 ∷ []) 0xA2 7 ∷ tagged (codes "d") (5 ∷ 3 ∷ 1 ∷ []) 0xA2 8 ∷ []) []

-- a stream without them in front of one that has them
abbrev pub untagged_first : DeclaredNetwork
untagged_first = declared_network way.topology (u ∷ tagged (codes "a") (0 ∷ 2 ∷ 4 ∷ []) 0xA1 7 ∷ []) []

-- a record at a station belongs to the stream that begins there and has both, by its number among all streams
pub record StreamsAreIdentified : Type 0 where
  pub first : stream_of tagged_way 0 (Some (0xA1, 7)) ≡ Some 0
  pub second : stream_of tagged_way 0 (Some (0xA1, 8)) ≡ Some 1
  pub third : stream_of tagged_way 0 (Some (0xA2, 7)) ≡ Some 2
  pub elsewhere : stream_of tagged_way 0 (Some (0xA2, 8)) ≡ None
  pub there : stream_of tagged_way 1 (Some (0xA2, 8)) ≡ Some 3
  pub no_stream : stream_of tagged_way 0 (Some (0xA2, 9)) ≡ None
  pub no_tag : stream_of tagged_way 0 None ≡ None
  pub after_untagged : stream_of untagged_first 0 (Some (0xA1, 7)) ≡ Some 1

-- so they are read, and one that ends inside the next record has a fault there
pub record CapturesAreRead : Type 0 where
  pub low : records_of (low_header ++ low_records) ≡ Ok low_read
  pub high : records_of (high_header ++ high_records) ≡ Ok high_read
  pub cut : records_of (low_header ++ low_records ++ 0x06 ∷ []) ≡ Err (CutShort 3)
  pub tags : TagsAreTold
  pub headers : HeadersAreJudged
  pub identities : IdentitiesAreBoth
  pub streams : StreamsAreIdentified
