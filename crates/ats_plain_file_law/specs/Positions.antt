use Rattle.std.specs.Prelude.{◌≡◌, ℕ, zero, suc, ◌<◌, ◌≤◌, true, false, List, [], length, take, drop, Some, None, Ok}
use Rattle.std.specs.Prelude.{Err}
use Rattle.std.specs.Option.{option_or}
use Rattle.ats_num.specs.Failure.{◌>>=◌}
use Rattle.ats_pcap.specs.Capture.{Position, Reach, form_of, header_fault, is_whole, link_fault, magic_fault}
use Rattle.ats_pcap.specs.Capture.{past_record, position_of, read_on, record_fault, records_of, version_fault}
use Rattle.ats_pcap.specs.declared.fault.CaptureFault.{CaptureFault}
use Rattle.ats_pcap.specs.declared.form.Form.{Form}
use Rattle.ats_pcap.specs.declared.record.Record.{Record}
use Rattle.ats_capture.specs.Reading.{records_in}
use Rattle.ats_capture.specs.declared.fault.RecordsFault.TheVariants.{Capture, TooLong}

-- of a capture's header the number at its front is judged first, then its version, and then its link; records are read
-- one behind the other as far as they are whole, up to the first fault, and no more of them than are asked for
pub record ReadingGoesOn : Type 0 where
  pub header : (bytes : List ℕ) → header_fault bytes
      ≡ option_or (magic_fault bytes) (option_or (version_fault bytes) (link_fault bytes))
  pub enough : (form : Form) (reach : Reach) → read_on zero form reach ≡ Ok reach
  pub broken : (turns : ℕ) (form : Form) (reach : Reach) (fault : CaptureFault)
      → record_fault form (length reach.records) (length reach.rest) reach.rest ≡ Some fault
      → read_on (suc turns) form reach ≡ Err fault
  pub open_end : (turns : ℕ) (form : Form) (reach : Reach)
      → record_fault form (length reach.records) (length reach.rest) reach.rest ≡ None
      → is_whole form (length reach.rest) reach.rest ≡ false → read_on (suc turns) form reach ≡ Ok reach
  pub further : (turns : ℕ) (form : Form) (reach : Reach)
      → record_fault form (length reach.records) (length reach.rest) reach.rest ≡ None
      → is_whole form (length reach.rest) reach.rest ≡ true
      → read_on (suc turns) form reach ≡ read_on turns form (past_record form reach)

-- bytes whose header has a fault end with that; others with their header's 24 bytes, their whole records, and what
-- there is of the next one, of which 32 bytes are kept
pub record EndsAreRead : Type 0 where
  pub faulty : (bytes : List ℕ) (fault : CaptureFault) → header_fault bytes ≡ Some fault
      → position_of bytes ≡ Err fault
  pub faultless : (bytes : List ℕ) → header_fault bytes ≡ None → position_of bytes
      ≡ (read_on (length bytes) (form_of bytes) (record { records = []; rest = drop 24 bytes })
      >>= λ reach. Ok (record {
        header = take 24 bytes;
        records = reach.records;
        there = length reach.rest;
        front = take 32 reach.rest;
      }))

-- of at most 2^28 bytes a capture's file has the records and the fault of the capture; of more the first so many are
-- judged by where they end, and where they have no fault, the file is too long
pub record CaptureFilesAreRead : Type 0 where
  pub read : (bytes : List ℕ) (records : List Record) → length bytes ≤ 268435456 → records_of bytes ≡ Ok records
      → records_in bytes ≡ Ok records
  pub refused : (bytes : List ℕ) (fault : CaptureFault) → length bytes ≤ 268435456 → records_of bytes ≡ Err fault
      → records_in bytes ≡ Err (Capture fault)
  pub long : (bytes : List ℕ) (end : Position) → 268435456 < length bytes
      → position_of (take 268435456 bytes) ≡ Ok end → records_in bytes ≡ Err TooLong
  pub long_refused : (bytes : List ℕ) (fault : CaptureFault) → 268435456 < length bytes
      → position_of (take 268435456 bytes) ≡ Err fault → records_in bytes ≡ Err (Capture fault)

pub record PositionsAreRead : Type 0 where
  pub goes_on : ReadingGoesOn
  pub ends : EndsAreRead
  pub files : CaptureFilesAreRead
