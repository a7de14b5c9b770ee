use Rattle.std.specs.Prelude.{◌≡◌, ℕ, List, ◌++◌, Result, Ok}
use Rattle.ats_network.specs.Network.{DeclaredNetwork}
use Rattle.ats_trace.specs.Journey.{Travel}
use Rattle.ats_replay.specs.Departures.{departures_text}
use Rattle.ats_capture.specs.Counts.{counts_text}
use Rattle.ats_capture.specs.Traffic.{Traffic}
use Rattle.ats_num.specs.Failure.{◌>>=◌}
use Rattle.ats_command_input.specs.Answer.{Answer}
use Rattle.ats_command_input.specs.Input.{network_in, traffic_in}
use Rattle.ats_command_input.specs.Station.{station_in}
use Rattle.ats_command_input.specs.declared.order.Order.{Order}
use Rattle.ats_command_due.specs.Replayed.{IsRunIn}

-- a run in this order with exactly the releases of a capture, and a text that prints each field of each of its
-- journeys, and then the counts of the records
pub record IsCaptureReplay (order : Order) (network : DeclaredNetwork) (traffic : Traffic) (text : List ℕ)
    (run : List Travel) : Type 0 where
  pub is_run : IsRunIn order network traffic.releases run
  pub written : text ≡ departures_text network run ++ counts_text traffic

-- a text is that of some run in this order with exactly the releases of a capture
abbrev pub IsCaptureText : Order → DeclaredNetwork → Traffic → List ℕ → Type 0
IsCaptureText order network traffic text = (run : List Travel) × IsCaptureReplay order network traffic text run

-- what was captured of a network
pub record Captured : Type 0 where
  pub network : DeclaredNetwork
  pub traffic : Traffic

-- the same of what was captured
abbrev pub IsCaptured : Order → Captured → List ℕ → Type 0
IsCaptured order captured text = IsCaptureText order captured.network captured.traffic text

-- what two files of these bytes declare of a capture at the station that a word names, or the answer to the first
-- fault: the network's is judged first, and then the word
unfoldable pub captured_in : List ℕ → List ℕ → List ℕ → List ℕ → List ℕ → Result Captured Answer
captured_in net station file net_bytes file_bytes = do
  network ← network_in net net_bytes
  place ← station_in network.topology station
  traffic ← traffic_in network place file file_bytes
  Ok (record { network = network; traffic = traffic })
