use Rattle.std.proofs.Common.{◌≡◌, ℕ, List, ◌++◌, Option, Some, None}
use Rattle.std.proofs.lemmas.Option.{none-some}
use Rattle.ats_num.specs.declared.failure.Failure.{Failure}
use Rattle.ats_num.specs.declared.failure.Failure.TheVariants.{Fault, NoMemory}
use Rattle.ats_pcap.specs.Capture.{Position, position_of}
use Rattle.ats_pcap.specs.Reading.{Shows, UnlessMemory}
use Rattle.ats_pcap.specs.declared.fault.CaptureFault.{CaptureFault}
use Rattle.ats_pcap.proofs.Taken.{position_of-fault}

-- a reader that was stopped stands for what it stood for, with whatever comes behind it
pub stopped_stands : (failure : Option (Failure CaptureFault)) (position : Position) (why : Failure CaptureFault)
    (bytes piece : List ℕ) → failure ≡ Some why → Shows failure position (position_of bytes)
    → UnlessMemory failure (Shows failure position (position_of (bytes ++ piece)))
stopped_stands None position why bytes piece e h = absurd (none-some why e)
stopped_stands (Some (Fault fault)) position why bytes piece e h = position_of-fault bytes piece fault h
stopped_stands (Some NoMemory) position why bytes piece e h = tt
