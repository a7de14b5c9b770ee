use Rattle.std.specs.Prelude.{◌≡◌, ℕ, List, Ok}
use Rattle.ats_pcap.specs.Capture.{records_of}
use Rattle.ats_pcap.specs.Reading.{Reading, StandsFor, ending_of}
use Rattle.ats_pcap.specs.declared.record.Record.{Record}
use Rattle.ats_capture.specs.Reading.{records_in}
use Rattle.ats_port_capture_law.specs.Laws.{ReadsAs}

-- What it comes to that records are read of a file.

-- they are those of its bytes, they are what any reader answers at the end that stands for the file, and they are what
-- is read through a window
pub record IsReadEverywhere (file : List ℕ) (found : List Record) : Type 0 where
  pub of_bytes : records_of file ≡ Ok found
  pub of_pieces : (reading : Reading) → StandsFor reading file
      → ending_of reading.failure reading.position ≡ Ok found
  pub of_window : records_in file ≡ Ok found

abbrev pub ReadingIsMeant : Type 0
ReadingIsMeant = (file : List ℕ) (found : List Record) → ReadsAs file found → IsReadEverywhere file found
