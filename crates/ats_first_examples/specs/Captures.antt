use Rattle.std.specs.Prelude.{◌≡◌, ℕ, List, [], ◌∷◌, ◌++◌, take, Option, Some, None, Ok, Err}
use Rattle.ats_pcap.specs.Capture.{record_fault, records_of}
use Rattle.ats_pcap.specs.declared.fault.CaptureFault.{CaptureFault}
use Rattle.ats_pcap.specs.declared.fault.CaptureFault.TheVariants as fault
use Rattle.ats_pcap.specs.declared.form.ByteOrder.TheVariants.{LowFirst}
use Rattle.ats_pcap.specs.declared.form.Form.{Form}
use Rattle.ats_pcap.specs.declared.form.Fraction.TheVariants.{Microseconds}
use Rattle.ats_pcap.specs.declared.record.Record.{Record}
use Rattle.ats_capture.specs.Traffic.{no_traffic, release_at, with_stream}
use Rattle.ats_capture.specs.declared.fault.JoinFault.TheVariants.{Limit}
use Rattle.ats_text_examples.specs.Captured.{header_of, high_header, low_header}
use Rattle.ats_text_examples.specs.Runs.{release}
use Rattle.ats_text_examples.specs.Worked.{way}

-- Bytes of captures with several faults at once, and which of them is named.

-- a header with this version and link type, whose first byte is another one
abbrev pub with_first : ℕ → ℕ → ℕ → List ℕ
with_first byte major link =
    byte ∷ 0xC3 ∷ 0xB2 ∷ 0xA1 ∷ major ∷ 0 ∷ 4 ∷ 0 ∷ 91 ∷ 92 ∷ 93 ∷ 94
    ∷ 95 ∷ 96 ∷ 97 ∷ 98 ∷ 99 ∷ 100 ∷ 101 ∷ 102 ∷ link ∷ 0 ∷ 0 ∷ 0 ∷ []

-- a header has all faults, and one less each time; each is told as soon as its bytes are there, and before that nothing
-- but that they end
pub record HeadersAreFirst : Type 0 where
  pub magic : records_of (with_first 0xD5 3 113) ≡ Err fault.BadMagic
  pub version : records_of (with_first 0xD4 3 113) ≡ Err fault.BadVersion
  pub minor : records_of (header_of 2 5 113) ≡ Err fault.BadVersion
  pub link : records_of (with_first 0xD4 2 113) ≡ Err fault.BadLink
  pub none : records_of (with_first 0xD4 2 1) ≡ Ok []
  pub later_format : records_of (0x0A ∷ 0x0D ∷ 0x0D ∷ 0x0A ∷ 3 ∷ 0 ∷ 4 ∷ 0 ∷ []) ≡ Err fault.PcapNg
  pub at_magic : records_of (take 4 (with_first 0xD5 3 113)) ≡ Err fault.BadMagic
  pub before_magic : records_of (take 3 (with_first 0xD5 3 113)) ≡ Err (fault.CutShort 0)
  pub at_version : records_of (take 8 (with_first 0xD4 3 113)) ≡ Err fault.BadVersion
  pub before_version : records_of (take 7 (with_first 0xD4 3 113)) ≡ Err (fault.CutShort 0)
  pub at_link : records_of (take 24 (with_first 0xD4 2 113)) ≡ Err fault.BadLink
  pub before_link : records_of (take 23 (with_first 0xD4 2 113)) ≡ Err (fault.CutShort 0)

-- the other two forms of a header: the low byte of each number first and fractions in nanoseconds, and the high byte
-- first and fractions in microseconds
abbrev pub low_nanos : List ℕ
low_nanos =
    0x4D ∷ 0x3C ∷ 0xB2 ∷ 0xA1 ∷ 2 ∷ 0 ∷ 4 ∷ 0 ∷ 91 ∷ 92 ∷ 93 ∷ 94
    ∷ 95 ∷ 96 ∷ 97 ∷ 98 ∷ 99 ∷ 100 ∷ 101 ∷ 102 ∷ 1 ∷ 0 ∷ 0 ∷ 0 ∷ []

abbrev pub high_micros : List ℕ
high_micros =
    0xA1 ∷ 0xB2 ∷ 0xC3 ∷ 0xD4 ∷ 0 ∷ 2 ∷ 0 ∷ 4 ∷ 91 ∷ 92 ∷ 93 ∷ 94
    ∷ 95 ∷ 96 ∷ 97 ∷ 98 ∷ 99 ∷ 100 ∷ 101 ∷ 102 ∷ 0 ∷ 0 ∷ 0 ∷ 1 ∷ []

-- a record of a frame of which nothing was captured, 1 s and a fraction of 7 after the beginning of time, with 100
-- octets; by the low byte first, and by the high byte first
abbrev pub low_record : List ℕ
low_record = 1 ∷ 0 ∷ 0 ∷ 0 ∷ 7 ∷ 0 ∷ 0 ∷ 0 ∷ 0 ∷ 0 ∷ 0 ∷ 0 ∷ 100 ∷ 0 ∷ 0 ∷ 0 ∷ []

abbrev pub high_record : List ℕ
high_record = 0 ∷ 0 ∷ 0 ∷ 1 ∷ 0 ∷ 0 ∷ 0 ∷ 7 ∷ 0 ∷ 0 ∷ 0 ∷ 0 ∷ 0 ∷ 0 ∷ 0 ∷ 100 ∷ []

abbrev pub read_at : ℕ → List Record
read_at nanos = record { nanos = nanos; octets = 104; identity = None } ∷ []

pub record FormsAreFour : Type 0 where
  pub micros_low : records_of (low_header ++ low_record) ≡ Ok (read_at 1000007000)
  pub nanos_low : records_of (low_nanos ++ low_record) ≡ Ok (read_at 1000000007)
  pub micros_high : records_of (high_micros ++ high_record) ≡ Ok (read_at 1000007000)
  pub nanos_high : records_of (high_header ++ high_record) ≡ Ok (read_at 1000000007)

-- the header of a record of which so many bytes were captured, by the four bytes of that number
abbrev pub captured : ℕ → ℕ → ℕ → List ℕ
captured low middle high =
    1 ∷ 0 ∷ 0 ∷ 0 ∷ 0 ∷ 0 ∷ 0 ∷ 0 ∷ low ∷ middle ∷ high ∷ 0 ∷ 0 ∷ 1 ∷ 0 ∷ 0 ∷ []

-- a form in which the low byte of each number comes first
abbrev pub low_form : Form
low_form = record { order = LowFirst; fraction = Microseconds }

-- the fault of a record behind so many others, of which these bytes are there, and so many of them
abbrev pub behind : ℕ → ℕ → List ℕ → Option CaptureFault
behind count there bytes = record_fault low_form count there bytes

-- a record is too long, or one too many, as soon as its bytes show that, and whichever it is besides; of a record that
-- may be there, 262,144 captured bytes are the most, and a million records. An earlier record comes before a later one
pub record RecordsAreFirst : Type 0 where
  pub long : records_of (low_header ++ captured 1 0 4) ≡ Err (fault.RecordTooLong 1)
  pub before_long : records_of (low_header ++ take 15 (captured 1 0 4)) ≡ Err (fault.CutShort 1)
  pub longest : records_of (low_header ++ captured 0 0 4) ≡ Err (fault.CutShort 1)
  pub earlier : records_of (low_header ++ captured 1 0 4 ++ captured 1 0 4 ++ 1 ∷ []) ≡ Err (fault.RecordTooLong 1)
  pub last : behind 999999 16 (captured 0 0 4) ≡ None
  pub last_long : behind 999999 16 (captured 1 0 4) ≡ Some (fault.RecordTooLong 1000000)
  pub past : behind 1000000 1 (1 ∷ []) ≡ Some (fault.Limit 1000001)
  pub past_long : behind 1000000 16 (captured 1 0 4) ≡ Some (fault.Limit 1000001)
  pub end : behind 1000000 0 [] ≡ None

-- a record of a stream with the octets of a frame makes a release, where one more may be run: the 200,000th may, and
-- neither the one behind it, nor one with which the frames have more than 3,200,000 ports, nor one later than 100,000
-- s. One that is longer, or of no stream, makes none, however late
pub record ReleasesAreFirst : Type 0 where
  pub last : release_at 9 199999 3200000 100000000000000 3 64 ≡ Ok (release 100000000000000000 3 64)
  pub past : release_at 9 200000 0 0 3 64 ≡ Err (Limit 9)
  pub wider : release_at 9 0 3200001 0 3 64 ≡ Err (Limit 9)
  pub late : release_at 9 0 0 100000000000001 3 64 ≡ Err (Limit 9)
  pub longest : with_stream way 5 no_traffic 2000 (Some 1)
      ≡ Ok (record { releases = release 5000 1 2000 ∷ []; records = 1; unidentified = 0; oversize = 0 })
  pub late_longest : with_stream way 100000000000001 no_traffic 2000 (Some 1) ≡ Err (Limit 1)
  pub oversize : with_stream way 100000000000001 no_traffic 2001 (Some 1)
      ≡ Ok (record { releases = []; records = 1; unidentified = 0; oversize = 1 })
  pub unidentified : with_stream way 100000000000001 no_traffic 2001 None
      ≡ Ok (record { releases = []; records = 1; unidentified = 1; oversize = 0 })

pub record CapturesAreFirst : Type 0 where
  pub headers : HeadersAreFirst
  pub forms : FormsAreFour
  pub records : RecordsAreFirst
  pub releases : ReleasesAreFirst
