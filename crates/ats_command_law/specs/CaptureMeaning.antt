use Rattle.std.specs.Prelude.{◌≡◌, ℕ, ◌⊎◌, List, ◌++◌, codes, None, Ok, IsErr}
use Rattle.ats_network.specs.Network.{DeclaredNetwork, IsNetwork}
use Rattle.ats_trace.specs.Journey.{Travel}
use Rattle.ats_pcap.specs.declared.record.Record.{Record}
use Rattle.ats_capture.specs.Traffic.{Traffic}
use Rattle.ats_capture_law.specs.Counted.{counted, first_over}
use Rattle.ats_command_input.specs.Answer.{Answer}
use Rattle.ats_command_input.specs.Input.{network_in, records_in, traffic_in}
use Rattle.ats_command_input.specs.Station.{station_in}
use Rattle.ats_command_input.specs.declared.order.Order.{Order}
use Rattle.ats_command_due.specs.Captured.{IsCaptureReplay}
use Rattle.ats_command_due.specs.Due.{IsCaptureAnswer}
use Rattle.ats_command_input.specs.declared.status.Status.{Status}
use Rattle.ats_command_input.specs.declared.status.Status.TheVariants.{Done, Input, Refused}

-- a file of these bytes has these records, none of them over a limit, and all of them come to this traffic at a station
pub record IsCounted (file bytes : List ℕ) (network : DeclaredNetwork) (place : ℕ) (traffic : Traffic)
    (records : List Record) : Type 0 where
  pub read : records_in file bytes ≡ Ok records
  pub none_over : first_over network place records ≡ None
  pub counts : traffic ≡ counted network place records

-- two files of these bytes declare this network and these records, captured at the station with this name, which come
-- to this traffic, and the text is that of this run, in this order
pub record IsCapturedRun (net station file net_bytes file_bytes : List ℕ) (order : Order) (text : List ℕ)
    (network : DeclaredNetwork) (place : ℕ) (records : List Record) (traffic : Traffic) (run : List Travel)
    : Type 0 where
  pub network_declared : network_in net net_bytes ≡ Ok network
  pub named : station_in network.topology station ≡ Ok place
  pub captured : IsCounted file file_bytes network place traffic records
  pub rules : IsNetwork network
  pub replay : IsCaptureReplay order network traffic text run

-- the first declares this network, in which no station has this name, and the text says so
pub record HasNoStation (net station net_bytes text : List ℕ) (network : DeclaredNetwork) : Type 0 where
  pub network_declared : network_in net net_bytes ≡ Ok network
  pub no_station : IsErr (station_in network.topology station)
  pub written : text ≡ codes "refused station " ++ station ++ codes "\n"

-- the first declares this network, in which a station has this name, and the second no traffic of it
pub record HasNoTraffic (net station file net_bytes file_bytes : List ℕ) (network : DeclaredNetwork) (place : ℕ)
    : Type 0 where
  pub network_declared : network_in net net_bytes ≡ Ok network
  pub named : station_in network.topology station ≡ Ok place
  pub no_traffic : IsErr (traffic_in network place file file_bytes)

-- what an answer to `capture NET STATION FILE ORDER` says of the bytes of both files, by its text and status; four
-- statuses never come
abbrev pub CaptureSays : List ℕ → List ℕ → List ℕ → List ℕ → List ℕ → Order → List ℕ → Status → Type 0
CaptureSays net station file net_bytes file_bytes order text Done =
    (network : DeclaredNetwork) × (place : ℕ) × (records : List Record) × (traffic : Traffic) × (run : List Travel)
    × IsCapturedRun net station file net_bytes file_bytes order text network place records traffic run
CaptureSays net station file net_bytes file_bytes order text Refused =
    (network : DeclaredNetwork) × HasNoStation net station net_bytes text network
CaptureSays net station file net_bytes file_bytes order text Input =
    IsErr (network_in net net_bytes)
    ⊎ ((network : DeclaredNetwork) × (place : ℕ)
    × HasNoTraffic net station file net_bytes file_bytes network place)
CaptureSays net station file net_bytes file_bytes order text status = ⊥

-- so for all words, orders and bytes, and each answer
abbrev pub CaptureMeans : Type 0
CaptureMeans = (net station file net_bytes file_bytes : List ℕ) (order : Order) (answer : Answer)
    → IsCaptureAnswer net station file order net_bytes file_bytes answer
    → CaptureSays net station file net_bytes file_bytes order answer.text answer.status
