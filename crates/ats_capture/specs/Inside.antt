use Rattle.std.specs.Prelude.{◌≡◌, Option, Some, None, Result, Ok, Err}
use Rattle.ats_num.specs.declared.failure.Failure.{Failure}
use Rattle.ats_num.specs.declared.failure.Failure.TheVariants.{Fault, NoMemory}
use Rattle.ats_pcap.specs.declared.fault.CaptureFault.{CaptureFault}
use Rattle.ats_capture.specs.declared.fault.RecordsFault.{RecordsFault}
use Rattle.ats_capture.specs.declared.fault.RecordsFault.TheVariants.{Failed, TooLong, Capture}

-- a call refused a piece for the reason for which the reader is stopped, or took it
abbrev pub Refuses : Result (Unit {0}) (Failure RecordsFault) → Option (Failure CaptureFault) → Type 0
Refuses (Ok done) stopped = stopped ≡ None
Refuses (Err NoMemory) stopped = stopped ≡ Some NoMemory
Refuses (Err (Fault (Capture fault))) stopped = stopped ≡ Some (Fault fault)
Refuses (Err (Fault Failed)) stopped = ⊥
Refuses (Err (Fault TooLong)) stopped = ⊥
