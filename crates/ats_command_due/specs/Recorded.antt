use Rattle.std.specs.Prelude.{ℕ, List, Result, Ok}
use Rattle.ats_network.specs.Network.{DeclaredNetwork}
use Rattle.ats_trace.specs.Journey.{Travel}
use Rattle.ats_trace.specs.declared.journey.Release.{Release}
use Rattle.ats_port_capture.specs.Capture.{IsCapture}
use Rattle.ats_num.specs.Failure.{◌>>=◌}
use Rattle.ats_command_input.specs.Answer.{Answer}
use Rattle.ats_command_input.specs.Input.{network_in, releases_in}
use Rattle.ats_command_input.specs.Port.{port_in}
use Rattle.ats_command_input.specs.declared.order.Order.{Order}
use Rattle.ats_command_due.specs.Replayed.{IsRunIn}

-- a run in this order with exactly these releases, and a file that is the capture of a port in it
pub record IsRecordedRun (order : Order) (network : DeclaredNetwork) (port : ℕ) (releases : List Release)
    (file : List ℕ) (run : List Travel) : Type 0 where
  pub is_run : IsRunIn order network releases run
  pub capture : IsCapture network run port file

-- a file is the capture of a port in some such run
abbrev pub IsRecordedFile : Order → DeclaredNetwork → ℕ → List Release → List ℕ → Type 0
IsRecordedFile order network port releases file =
    (run : List Travel) × IsRecordedRun order network port releases file run

-- what is to be run, and the port whose transmissions are to be captured
pub record Recorded : Type 0 where
  pub network : DeclaredNetwork
  pub port : ℕ
  pub releases : List Release

-- the same of these
abbrev pub IsRecorded : Order → Recorded → List ℕ → Type 0
IsRecorded order recorded file = IsRecordedFile order recorded.network recorded.port recorded.releases file

-- what two files of these bytes declare to be run, and the port that a word names, or the answer to the first fault:
-- the network's is judged first, then the word, and then the schedule's
unfoldable pub recorded_in : List ℕ → List ℕ → List ℕ → List ℕ → List ℕ → Result Recorded Answer
recorded_in net schedule port net_bytes schedule_bytes = do
  network ← network_in net net_bytes
  place ← port_in network.topology port
  releases ← releases_in network schedule schedule_bytes
  Ok (record { network = network; port = place; releases = releases })
