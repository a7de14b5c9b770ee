use Rattle.std.specs.Prelude.{◌≡◌, ℕ, List, Option, Some, None, Result, Ok, Err}
use Rattle.ats_num.specs.declared.failure.Failure.{Failure}
use Rattle.ats_num.specs.declared.failure.Failure.TheVariants.{Fault, NoMemory}
use Rattle.ats_pcap.specs.Capture.{Position, position_of, records_at}
use Rattle.ats_pcap.specs.declared.fault.CaptureFault.{CaptureFault}
use Rattle.ats_pcap.specs.declared.record.Record.{Record}

-- what a reader keeps: where the bytes end that it was fed, and why it stopped, where it did
pub record Reading : Type 0 where
  pub position : Position
  pub failure : Option (Failure CaptureFault)

-- a reader that was stopped like this, or not at all, shows what is due
abbrev pub Shows : Option (Failure CaptureFault) → Position → Result Position CaptureFault → Type 0
Shows None position due = due ≡ Ok position
Shows (Some (Fault fault)) position due = due ≡ Err fault
Shows (Some NoMemory) position due = ⊥

-- a reader stands for these bytes: it is where they end, or shows the fault that they show first; one that memory
-- ran out for stands for none
abbrev pub StandsFor : Reading → List ℕ → Type 0
StandsFor reading bytes = Shows reading.failure reading.position (position_of bytes)

-- a call answered why the reader is stopped, or that it is not
abbrev pub Answers : Result (Unit {0}) (Failure CaptureFault) → Option (Failure CaptureFault) → Type 0
Answers (Ok done) failure = failure ≡ None
Answers (Err e) failure = failure ≡ Some e

-- unless memory ran out for the reader
abbrev pub UnlessMemory : Option (Failure CaptureFault) → Type 0 → Type 0
UnlessMemory None P = P
UnlessMemory (Some (Fault fault)) P = P
UnlessMemory (Some NoMemory) P = Unit {0}

-- what a reader has to say at the end: why it stopped, or the records
abbrev pub ending_of : Option (Failure CaptureFault) → Position → Result (List Record) (Failure CaptureFault)
ending_of (Some failure) position = Err failure
ending_of None position = at_end (records_at position)
  where
    at_end : Result (List Record) CaptureFault → Result (List Record) (Failure CaptureFault)
    at_end (Ok records) = Ok records
    at_end (Err fault) = Err (Fault fault)
