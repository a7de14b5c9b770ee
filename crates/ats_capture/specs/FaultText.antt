use Rattle.std.specs.Prelude.{ℕ, List, ◌++◌, codes, decimal}
use Rattle.ats_pcap.specs.FaultText as capture
use Rattle.ats_capture.specs.declared.fault.JoinFault.{JoinFault}
use Rattle.ats_capture.specs.declared.fault.JoinFault.TheVariants.{Limit}
use Rattle.ats_capture.specs.declared.fault.RecordsFault.{RecordsFault}
use Rattle.ats_capture.specs.declared.fault.RecordsFault.TheVariants.{Failed, TooLong, Capture}

-- the word for a fault of the bytes of a file, and its record where it is the fault of one
abbrev pub records_fault_text : RecordsFault → List ℕ
records_fault_text Failed = codes "read-failed"
records_fault_text TooLong = codes "too-long"
records_fault_text (Capture fault) = capture.fault_text fault

-- the word for a fault of the records, and its record
abbrev pub fault_text : JoinFault → List ℕ
fault_text (Limit n) = codes "limit " ++ decimal n
