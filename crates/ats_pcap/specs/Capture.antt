use Rattle.std.specs.Prelude.{ℕ, zero, suc, ◌+◌, ◌*◌, Bool, ◌&&◌, ◌||◌, ◌==◌, nat_le, nat_lt, max, List, []}
use Rattle.std.specs.Prelude.{◌∷◌, ◌++◌, length, take, drop, Option, Some, None, Result, Ok, Err, if◌then◌else◌}
use Rattle.ats_num.specs.Failure.{◌>>=◌}
use Rattle.ats_pcap.specs.Identity.{identity_of}
use Rattle.ats_pcap.specs.Numbers.{number16, number32}
use Rattle.ats_pcap.specs.declared.fault.CaptureFault.{CaptureFault}
use Rattle.ats_pcap.specs.declared.fault.CaptureFault.TheVariants.{BadMagic, PcapNg, BadVersion, BadLink}
use Rattle.ats_pcap.specs.declared.fault.CaptureFault.TheVariants.{RecordTooLong, CutShort, Limit}
use Rattle.ats_pcap.specs.declared.form.ByteOrder.{ByteOrder}
use Rattle.ats_pcap.specs.declared.form.ByteOrder.TheVariants.{LowFirst, HighFirst}
use Rattle.ats_pcap.specs.declared.form.Form.{Form}
use Rattle.ats_pcap.specs.declared.form.Fraction.{Fraction}
use Rattle.ats_pcap.specs.declared.form.Fraction.TheVariants.{Microseconds, Nanoseconds}
use Rattle.ats_pcap.specs.declared.record.Record.{Record}

-- a number is a magic one: for fractions in microseconds, or in nanoseconds
abbrev pub is_magic : ℕ → Bool
is_magic n = (n == 0xA1B2C3D4) || (n == 0xA1B23C4D)

-- the order of the bytes of all numbers: the one in which the magic number is one
unfoldable pub order_of : List ℕ → ByteOrder
order_of bytes = if is_magic (number32 LowFirst 0 bytes) then LowFirst else HighFirst

-- how a capture writes its numbers, and what its fractions of seconds are
unfoldable pub form_of : List ℕ → Form
form_of bytes = record {
  order = order_of bytes;
  fraction = if number32 (order_of bytes) 0 bytes == 0xA1B23C4D then Nanoseconds else Microseconds;
}

-- how many nanoseconds such a fraction has
abbrev pub nanos_of : Fraction → ℕ
nanos_of Microseconds = 1000
nanos_of Nanoseconds = 1

-- what is due, where no fault stands against it
abbrev pub without : {A : Type 0} → Option CaptureFault → Result A CaptureFault → Result A CaptureFault
without None due = due
without (Some fault) due = Err fault

-- the fault of a header's first number, where its four bytes are there
abbrev pub magic_fault : List ℕ → Option CaptureFault
magic_fault bytes =
    if nat_lt (length bytes) 4 then None
    else if number32 HighFirst 0 bytes == 0x0A0D0D0A then Some PcapNg
    else if is_magic (number32 (order_of bytes) 0 bytes) then None else Some BadMagic

-- the fault of its version, which is to be 2 and 4, where these eight bytes are there
abbrev pub version_fault : List ℕ → Option CaptureFault
version_fault bytes =
    if nat_lt (length bytes) 8 then None
    else if (number16 (order_of bytes) 4 bytes == 2) && (number16 (order_of bytes) 6 bytes == 4) then None
    else Some BadVersion

-- the fault of its link type, which is to be 1, where all 24 bytes are there
abbrev pub link_fault : List ℕ → Option CaptureFault
link_fault bytes =
    if nat_lt (length bytes) 24 then None
    else if number32 (order_of bytes) 20 bytes == 1 then None
    else Some BadLink

-- the first of two faults, where there is one
abbrev pub first_fault : Option CaptureFault → Option CaptureFault → Option CaptureFault
first_fault None fault = fault
first_fault (Some first) fault = Some first

-- the first fault that the header shows
unfoldable pub header_fault : List ℕ → Option CaptureFault
header_fault bytes = first_fault (magic_fault bytes) (first_fault (version_fault bytes) (link_fault bytes))

-- how many captured bytes a record has, by its header
abbrev pub captured_of : Form → List ℕ → ℕ
captured_of form bytes = number32 form.order 8 bytes

-- the record that whole bytes make: its time, its octets with the check sequence, and what identifies it
unfoldable pub record_of : Form → List ℕ → Record
record_of form bytes = record {
  nanos = number32 form.order 0 bytes * 1_000_000_000 + number32 form.order 4 bytes * nanos_of form.fraction;
  octets = max (number32 form.order 12 bytes) 60 + 4;
  identity = identity_of (take (captured_of form bytes) (drop 16 bytes));
}

-- the fault of a record behind so many others, of which so many bytes are there, these first
unfoldable pub record_fault : Form → ℕ → ℕ → List ℕ → Option CaptureFault
record_fault form before there bytes =
    if there == 0 then None
    else if before == 1_000_000 then Some (Limit 1_000_001)
    else if nat_lt there 16 then None
    else if nat_lt 262_144 (captured_of form bytes) then Some (RecordTooLong (before + 1))
    else None

-- whether all its bytes are there
unfoldable pub is_whole : Form → ℕ → List ℕ → Bool
is_whole form there bytes = nat_le 16 there && nat_le (16 + captured_of form bytes) there

-- how far a capture is read: its whole records, and the bytes behind them
pub record Reach : Type 0 where
  pub records : List Record
  pub rest : List ℕ

-- the same, one record further
abbrev pub past_record : Form → Reach → Reach
past_record form reach = record {
  records = reach.records ++ record_of form reach.rest ∷ [];
  rest = drop (16 + captured_of form reach.rest) reach.rest;
}

-- further by this many records at most, as far as they are whole and without a fault
abbrev pub read_on : ℕ → Form → Reach → Result Reach CaptureFault
read_on zero form reach = Ok reach
read_on (suc turns) form reach = without (record_fault form (length reach.records) (length reach.rest) reach.rest)
    (if is_whole form (length reach.rest) reach.rest then read_on turns form (past_record form reach) else Ok reach)

-- where the bytes of a capture end: the bytes of its header, its whole records, how many bytes there are of the next
-- one, and at most 32 of these, the first
pub record Position : Type 0 where
  pub header : List ℕ
  pub records : List Record
  pub there : ℕ
  pub front : List ℕ

-- behind this header and so far
abbrev pub position_at : List ℕ → Reach → Position
position_at header reach = record {
  header = header;
  records = reach.records;
  there = length reach.rest;
  front = take 32 reach.rest;
}

-- where these bytes of a capture end, or the first fault that they show; a record has at least one byte, so as many
-- records as bytes are enough
unfoldable pub position_of : List ℕ → Result Position CaptureFault
position_of bytes = without (header_fault bytes)
    (read_on (length bytes) (form_of bytes) (record { records = []; rest = drop 24 bytes })
    >>= λ reach. Ok (position_at (take 24 bytes) reach))

-- the records at the end of a capture: it may end behind its header or a whole record, and nowhere else
abbrev pub records_at : Position → Result (List Record) CaptureFault
records_at end =
    if nat_lt (length end.header) 24 then Err (CutShort 0)
    else if end.there == 0 then Ok end.records
    else Err (CutShort (length end.records + 1))

-- the records of a capture, or its first fault
abbrev pub records_of : List ℕ → Result (List Record) CaptureFault
records_of bytes = position_of bytes >>= records_at
