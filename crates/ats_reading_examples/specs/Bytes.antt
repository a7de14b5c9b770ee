use Rattle.std.specs.Prelude.{◌≡◌, ℕ, ◌+◌, List, [], ◌∷◌, ◌++◌, map, replicate, None, Result, Ok, Err}
use Rattle.ats_pcap.specs.Capture.{records_of}
use Rattle.ats_pcap.specs.declared.fault.CaptureFault.{CaptureFault}
use Rattle.ats_pcap.specs.declared.fault.CaptureFault.TheVariants.{BadLink, BadMagic, BadVersion, CutShort}
use Rattle.ats_pcap.specs.declared.fault.CaptureFault.TheVariants.{PcapNg, RecordTooLong}
use Rattle.ats_pcap.specs.declared.record.Record.{Record}

-- Numbers of captures in all their bytes.

-- a header by these bytes of its version and of its link type, where the low byte of each number is first; and the same
-- where the high byte is first, with fractions in nanoseconds
abbrev pub low_header : List ℕ → List ℕ → List ℕ
low_header version link =
    0xD4 ∷ 0xC3 ∷ 0xB2 ∷ 0xA1 ∷ version ++ 91 ∷ 92 ∷ 93 ∷ 94 ∷ 95 ∷ 96 ∷ 97 ∷ 98 ∷ 99 ∷ 100 ∷ 101 ∷ 102 ∷ link

abbrev pub high_header : List ℕ → List ℕ → List ℕ
high_header version link =
    0xA1 ∷ 0xB2 ∷ 0x3C ∷ 0x4D ∷ version ++ 91 ∷ 92 ∷ 93 ∷ 94 ∷ 95 ∷ 96 ∷ 97 ∷ 98 ∷ 99 ∷ 100 ∷ 101 ∷ 102 ∷ link

abbrev pub low : List ℕ → List ℕ → Result (List Record) CaptureFault
low version link = records_of (low_header version link)

abbrev pub high : List ℕ → List ℕ → Result (List Record) CaptureFault
high version link = records_of (high_header version link)

-- four bytes, of which one is greater by 1
abbrev pub one_greater : ℕ → ℕ → ℕ → ℕ → List (List ℕ)
one_greater a b c d =
    ((a + 1) ∷ b ∷ c ∷ d ∷ []) ∷ (a ∷ (b + 1) ∷ c ∷ d ∷ []) ∷ (a ∷ b ∷ (c + 1) ∷ d ∷ []) ∷ (a ∷ b ∷ c ∷ (d + 1) ∷ [])
    ∷ []

-- the four magic numbers by their bytes, to which nothing is missing but the rest of the header; the mark of another
-- format; and each of the five with one byte greater. Refuses a magic number by its first and its last byte
pub record MagicsHaveAllBits : Type 0 where
  pub low_micros : records_of (0xD4 ∷ 0xC3 ∷ 0xB2 ∷ 0xA1 ∷ []) ≡ Err (CutShort 0)
  pub high_micros : records_of (0xA1 ∷ 0xB2 ∷ 0xC3 ∷ 0xD4 ∷ []) ≡ Err (CutShort 0)
  pub low_nanos : records_of (0x4D ∷ 0x3C ∷ 0xB2 ∷ 0xA1 ∷ []) ≡ Err (CutShort 0)
  pub high_nanos : records_of (0xA1 ∷ 0xB2 ∷ 0x3C ∷ 0x4D ∷ []) ≡ Err (CutShort 0)
  pub other : records_of (0x0A ∷ 0x0D ∷ 0x0D ∷ 0x0A ∷ []) ≡ Err PcapNg
  pub near_low_micros : map records_of (one_greater 0xD4 0xC3 0xB2 0xA1) ≡ replicate 4 (Err BadMagic)
  pub near_high_micros : map records_of (one_greater 0xA1 0xB2 0xC3 0xD4) ≡ replicate 4 (Err BadMagic)
  pub near_low_nanos : map records_of (one_greater 0x4D 0x3C 0xB2 0xA1) ≡ replicate 4 (Err BadMagic)
  pub near_high_nanos : map records_of (one_greater 0xA1 0xB2 0x3C 0x4D) ≡ replicate 4 (Err BadMagic)
  pub near_other : map records_of (one_greater 0x0A 0x0D 0x0D 0x0A) ≡ replicate 4 (Err BadMagic)

-- a link type has 32 bits, and each number of a version 16
pub record HeadersHaveAllBits : Type 0 where
  pub none : low (2 ∷ 0 ∷ 4 ∷ 0 ∷ []) (1 ∷ 0 ∷ 0 ∷ 0 ∷ []) ≡ Ok []
  pub second : low (2 ∷ 0 ∷ 4 ∷ 0 ∷ []) (1 ∷ 1 ∷ 0 ∷ 0 ∷ []) ≡ Err BadLink
  pub third : low (2 ∷ 0 ∷ 4 ∷ 0 ∷ []) (1 ∷ 0 ∷ 1 ∷ 0 ∷ []) ≡ Err BadLink
  pub fourth : low (2 ∷ 0 ∷ 4 ∷ 0 ∷ []) (1 ∷ 0 ∷ 0 ∷ 0x24 ∷ []) ≡ Err BadLink
  pub major : low (2 ∷ 1 ∷ 4 ∷ 0 ∷ []) (1 ∷ 0 ∷ 0 ∷ 0 ∷ []) ≡ Err BadVersion
  pub minor : low (2 ∷ 0 ∷ 4 ∷ 1 ∷ []) (1 ∷ 0 ∷ 0 ∷ 0 ∷ []) ≡ Err BadVersion
  pub none_high : high (0 ∷ 2 ∷ 0 ∷ 4 ∷ []) (0 ∷ 0 ∷ 0 ∷ 1 ∷ []) ≡ Ok []
  pub second_high : high (0 ∷ 2 ∷ 0 ∷ 4 ∷ []) (0 ∷ 0 ∷ 1 ∷ 1 ∷ []) ≡ Err BadLink
  pub third_high : high (0 ∷ 2 ∷ 0 ∷ 4 ∷ []) (0 ∷ 1 ∷ 0 ∷ 1 ∷ []) ≡ Err BadLink
  pub fourth_high : high (0 ∷ 2 ∷ 0 ∷ 4 ∷ []) (0x24 ∷ 0 ∷ 0 ∷ 1 ∷ []) ≡ Err BadLink
  pub major_high : high (1 ∷ 2 ∷ 0 ∷ 4 ∷ []) (0 ∷ 0 ∷ 0 ∷ 1 ∷ []) ≡ Err BadVersion
  pub minor_high : high (0 ∷ 2 ∷ 1 ∷ 4 ∷ []) (0 ∷ 0 ∷ 0 ∷ 1 ∷ []) ≡ Err BadVersion

-- what is read of a record of which so many bytes were captured: by the bytes of its seconds, its fraction, the
-- captured bytes, of which none is there, and the bytes of its frame
abbrev pub low_read : List ℕ → List ℕ → List ℕ → List ℕ → Result (List Record) CaptureFault
low_read seconds fraction captured octets =
    records_of (low_header (2 ∷ 0 ∷ 4 ∷ 0 ∷ []) (1 ∷ 0 ∷ 0 ∷ 0 ∷ []) ++ seconds ++ fraction ++ captured ++ octets)

abbrev pub high_read : List ℕ → List ℕ → List ℕ → List ℕ → Result (List Record) CaptureFault
high_read seconds fraction captured octets =
    records_of (high_header (0 ∷ 2 ∷ 0 ∷ 4 ∷ []) (0 ∷ 0 ∷ 0 ∷ 1 ∷ []) ++ seconds ++ fraction ++ captured ++ octets)

abbrev pub none : List ℕ
none = 0 ∷ 0 ∷ 0 ∷ 0 ∷ []

abbrev pub one_record : ℕ → ℕ → List Record
one_record nanos octets = record { nanos = nanos; octets = octets; identity = None } ∷ []

-- a frame has four octets more than its original length, the check sequence, and 60 at least without it. Refuses 64 for
-- all that are shorter than 64
pub record FramesHaveLeastOctets : Type 0 where
  pub of_0 : low_read none none none (0 ∷ 0 ∷ 0 ∷ 0 ∷ []) ≡ Ok (one_record 0 64)
  pub below : low_read none none none (59 ∷ 0 ∷ 0 ∷ 0 ∷ []) ≡ Ok (one_record 0 64)
  pub least : low_read none none none (60 ∷ 0 ∷ 0 ∷ 0 ∷ []) ≡ Ok (one_record 0 64)
  pub above : low_read none none none (61 ∷ 0 ∷ 0 ∷ 0 ∷ []) ≡ Ok (one_record 0 65)
  pub short : low_read none none none (63 ∷ 0 ∷ 0 ∷ 0 ∷ []) ≡ Ok (one_record 0 67)
  pub of_64 : low_read none none none (64 ∷ 0 ∷ 0 ∷ 0 ∷ []) ≡ Ok (one_record 0 68)

-- and so have the numbers of a record
pub record RecordsHaveAllBits : Type 0 where
  pub octets_second : low_read none none none (60 ∷ 1 ∷ 0 ∷ 0 ∷ []) ≡ Ok (one_record 0 320)
  pub octets_third : low_read none none none (60 ∷ 0 ∷ 1 ∷ 0 ∷ []) ≡ Ok (one_record 0 65600)
  pub octets_fourth : low_read none none none (60 ∷ 0 ∷ 0 ∷ 1 ∷ []) ≡ Ok (one_record 0 16777280)
  pub seconds_fourth : low_read (7 ∷ 0 ∷ 0 ∷ 1 ∷ []) none none (60 ∷ 0 ∷ 0 ∷ 0 ∷ [])
      ≡ Ok (one_record 16777223000000000 64)
  pub fraction_fourth : low_read none (7 ∷ 0 ∷ 0 ∷ 1 ∷ []) none (60 ∷ 0 ∷ 0 ∷ 0 ∷ []) ≡ Ok (one_record 16777223000 64)
  pub captured_fourth : low_read none none (0 ∷ 0 ∷ 0 ∷ 1 ∷ []) (60 ∷ 0 ∷ 0 ∷ 0 ∷ []) ≡ Err (RecordTooLong 1)
  pub octets_second_high : high_read none none none (0 ∷ 0 ∷ 1 ∷ 60 ∷ []) ≡ Ok (one_record 0 320)
  pub octets_third_high : high_read none none none (0 ∷ 1 ∷ 0 ∷ 60 ∷ []) ≡ Ok (one_record 0 65600)
  pub octets_fourth_high : high_read none none none (1 ∷ 0 ∷ 0 ∷ 60 ∷ []) ≡ Ok (one_record 0 16777280)
  pub seconds_fourth_high : high_read (1 ∷ 0 ∷ 0 ∷ 7 ∷ []) none none (0 ∷ 0 ∷ 0 ∷ 60 ∷ [])
      ≡ Ok (one_record 16777223000000000 64)
  pub fraction_fourth_high : high_read none (1 ∷ 0 ∷ 0 ∷ 7 ∷ []) none (0 ∷ 0 ∷ 0 ∷ 60 ∷ [])
      ≡ Ok (one_record 16777223 64)
  pub captured_fourth_high : high_read none none (1 ∷ 0 ∷ 0 ∷ 0 ∷ []) (0 ∷ 0 ∷ 0 ∷ 60 ∷ []) ≡ Err (RecordTooLong 1)

pub record CapturesHaveAllBits : Type 0 where
  pub magics : MagicsHaveAllBits
  pub headers : HeadersHaveAllBits
  pub records : RecordsHaveAllBits
  pub octets : FramesHaveLeastOctets
