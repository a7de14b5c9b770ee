use Rattle.std.specs.Prelude.{ℕ, List, Result, Ok}
use Rattle.ats_network.specs.Network.{DeclaredNetwork}
use Rattle.ats_schedule.specs.Text.{schedule_text}
use Rattle.ats_capture.specs.Traffic.{Traffic}
use Rattle.ats_num.specs.Failure.{◌>>=◌}
use Rattle.ats_command_input.specs.Answer.{Answer}
use Rattle.ats_command_input.specs.Input.{traffic_in}
use Rattle.ats_command_due.specs.Captured.{captured_in}

-- the schedule of exactly the releases of a station
abbrev pub released_text : DeclaredNetwork → Traffic → List ℕ
released_text network traffic = schedule_text network traffic.releases

-- the same of what a capture's file of these bytes comes to at a station, or the answer to its first fault
abbrev pub released_at : DeclaredNetwork → ℕ → List ℕ → List ℕ → Result (List ℕ) Answer
released_at network station file bytes = do
  traffic ← traffic_in network station file bytes
  Ok (released_text network traffic)

-- the same of what two files of these bytes declare of a capture at the station that a word names: what `capture` runs
unfoldable pub released_in : List ℕ → List ℕ → List ℕ → List ℕ → List ℕ → Result (List ℕ) Answer
released_in net station file net_bytes file_bytes = do
  captured ← captured_in net station file net_bytes file_bytes
  Ok (released_text captured.network captured.traffic)
