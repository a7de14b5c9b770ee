use Rattle.std.specs.Prelude.{◌≡◌, ℕ, List, [], ◌∷◌, ◌++◌, Some, None, Ok, Err}
use Rattle.ats_pcap.specs.Capture.{records_of}
use Rattle.ats_pcap.specs.declared.fault.CaptureFault.TheVariants.{BadMagic, CutShort, RecordTooLong}
use Rattle.ats_pcap.specs.declared.record.Record.{Record}
pub use Rattle.ats_text_examples.specs.Captured.{low_header}

-- The bytes of a capture with four records.

-- a record with the low byte of each number first: seconds, microseconds, how many bytes were captured, how many the
-- frame has, and those that were captured
abbrev pub bytes_of : ℕ → ℕ → ℕ → ℕ → ℕ → List ℕ → List ℕ
bytes_of seconds micros captured low high frame =
    seconds ∷ 0 ∷ 0 ∷ 0 ∷ micros ∷ 0 ∷ 0 ∷ 0 ∷ captured ∷ 0 ∷ 0 ∷ 0 ∷ low ∷ high ∷ 0 ∷ 0 ∷ frame

-- of the first frame the tag was captured, of the second the bytes before it, of the third the tag, of the last nothing
abbrev pub four_records : List ℕ
four_records =
    bytes_of 1 17 16 80 0
    (0x21 ∷ 0x22 ∷ 0x23 ∷ 0x24 ∷ 0x25 ∷ 0x26 ∷ 1 ∷ 2 ∷ 3 ∷ 4 ∷ 5 ∷ 6 ∷ 0x81 ∷ 0x00 ∷ 0xB2 ∷ 0xC3 ∷ [])
    ++ bytes_of 2 34 14 60 0 (0x31 ∷ 0x32 ∷ 0x33 ∷ 0x34 ∷ 0x35 ∷ 0x36 ∷ 1 ∷ 2 ∷ 3 ∷ 4 ∷ 5 ∷ 6 ∷ 0x81 ∷ 0x00 ∷ [])
    ++ bytes_of 3 51 17 130 0
    (0x41 ∷ 0x42 ∷ 0x43 ∷ 0x44 ∷ 0x45 ∷ 0x46 ∷ 1 ∷ 2 ∷ 3 ∷ 4 ∷ 5 ∷ 6 ∷ 0x81 ∷ 0x00 ∷ 0xF0 ∷ 0x0A ∷ 7 ∷ [])
    ++ bytes_of 4 68 0 0xEA 0x05 []

-- a frame has four octets more than were captured of it, those of the check sequence
abbrev pub four_read : List Record
four_read =
    record { nanos = 1000017000; octets = 84; identity = Some (0x212223242526, 0x2C3) }
    ∷ record { nanos = 2000034000; octets = 64; identity = None }
    ∷ record { nanos = 3000051000; octets = 134; identity = Some (0x414243444546, 0x00A) }
    ∷ record { nanos = 4000068000; octets = 1518; identity = None } ∷ []

-- the header where the three fields without a meaning are 0, and where the snap length is 1: no record's bytes are
-- measured by it
abbrev pub header_with_snap : ℕ → List ℕ
header_with_snap length =
    0xD4 ∷ 0xC3 ∷ 0xB2 ∷ 0xA1 ∷ 2 ∷ 0 ∷ 4 ∷ 0 ∷ 0 ∷ 0 ∷ 0 ∷ 0
    ∷ 0 ∷ 0 ∷ 0 ∷ 0 ∷ length ∷ 0 ∷ 0 ∷ 0 ∷ 1 ∷ 0 ∷ 0 ∷ 0 ∷ []

-- they are read so. Of a fifth record that is cut short or too long the number is told
pub record CaptureIsCounted : Type 0 where
  pub read : records_of (low_header ++ four_records) ≡ Ok four_read
  pub no_snap : records_of (header_with_snap 0 ++ four_records) ≡ Ok four_read
  pub short_snap : records_of (header_with_snap 1 ++ four_records) ≡ Ok four_read
  pub cut : records_of (low_header ++ four_records ++ 5 ∷ []) ≡ Err (CutShort 5)
  pub long : records_of (low_header ++ four_records
      ++ 5 ∷ 0 ∷ 0 ∷ 0 ∷ 0 ∷ 0 ∷ 0 ∷ 0 ∷ 1 ∷ 0 ∷ 4 ∷ 0 ∷ 1 ∷ 0 ∷ 4 ∷ 0 ∷ []) ≡ Err (RecordTooLong 5)
  pub no_bytes : records_of [] ≡ Err (CutShort 0)
  pub no_magic : records_of (1 ∷ 2 ∷ 3 ∷ 4 ∷ []) ≡ Err BadMagic
