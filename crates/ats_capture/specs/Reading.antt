use Rattle.std.specs.Prelude.{◌≡◌, ℕ, ◌≤◌, nat_lt, if◌then◌else◌, List, length, take, Result, Ok, Err}
use Rattle.std.specs.Global.{Vec}
use Rattle.ats_num.specs.Failure.{◌>>=◌}
use Rattle.ats_num.specs.declared.failure.Failure.{Failure}
use Rattle.ats_num.specs.declared.failure.Failure.TheVariants.{Fault, NoMemory}
use Rattle.ats_pcap.specs.Capture.{position_of, records_of}
use Rattle.ats_pcap.specs.declared.fault.CaptureFault.{CaptureFault}
use Rattle.ats_pcap.specs.declared.record.Record.{Record}
use Rattle.ats_capture.specs.declared.fault.RecordsFault.{RecordsFault}
use Rattle.ats_capture.specs.declared.fault.RecordsFault.TheVariants.{Failed, TooLong, Capture}
use Rattle.ats_capture.specs.declared.reading.TheConstants.{MAX_BYTES}

-- what the bytes of a capture give, with its fault as one of the file
abbrev pub of_file : {A : Type 0} → Result A CaptureFault → Result A RecordsFault
of_file (Ok x) = Ok x
of_file (Err fault) = Err (Capture fault)

-- the records of a capture's file of these bytes, or its first fault: of bytes that are too many the first count, and
-- that these end inside a record is no fault
unfoldable pub records_in : List ℕ → Result (List Record) RecordsFault
records_in bytes =
    if nat_lt MAX_BYTES (length bytes) then of_file (position_of (take MAX_BYTES bytes)) >>= (λ _. Err TooLong)
    else of_file (records_of bytes)

-- a call answered the records or the fault that is due, unless a read failed or memory ran out
abbrev pub GivesUnlessFailed : Result (Vec Record) (Failure RecordsFault) → Result (List Record) RecordsFault → Type 0
GivesUnlessFailed (Ok records) due = due ≡ Ok records.items
GivesUnlessFailed (Err NoMemory) due = Unit {0}
GivesUnlessFailed (Err (Fault Failed)) due = Unit {0}
GivesUnlessFailed (Err (Fault TooLong)) due = due ≡ Err TooLong
GivesUnlessFailed (Err (Fault (Capture fault))) due = due ≡ Err (Capture fault)

-- a record has the octets of a frame at least
abbrev pub IsLongEnough : Record → Type 0
IsLongEnough r = 64 ≤ r.octets
