use Rattle.std.specs.Prelude.{◌≡◌, ℕ, ◌⊎◌, List, ◌++◌, codes, map, Ok, IsErr}
use Rattle.ats_network.specs.Network.{DeclaredNetwork, IsNetwork}
use Rattle.ats_trace.specs.Journey.{Travel}
use Rattle.ats_trace.specs.declared.journey.Release.{Release}
use Rattle.ats_port_capture_law.specs.Laws.{ReadsAs, found_of}
use Rattle.ats_command_input.specs.Answer.{Answer}
use Rattle.ats_command_input.specs.Input.{network_in, releases_in}
use Rattle.ats_command_input.specs.Port.{port_in}
use Rattle.ats_command_input.specs.declared.order.Order.{Order}
use Rattle.ats_command_due.specs.Due.{IsRecordAnswer}
use Rattle.ats_command_due.specs.Recorded.{IsRecordedRun}
use Rattle.ats_command_input.specs.declared.status.Status.{Status}
use Rattle.ats_command_input.specs.declared.status.Status.TheVariants.{Done, Input, Refused}

-- two files of these bytes declare this network, in which this port has this name, and these releases; the bytes are
-- the capture of the port in this run, in this order and with exactly these releases; and of them one record is read
-- for each transmission of the port, in the order in which they started
pub record IsRecordOf (net schedule port net_bytes schedule_bytes : List ℕ) (order : Order) (file : List ℕ)
    (network : DeclaredNetwork) (place : ℕ) (releases : List Release) (run : List Travel) : Type 0 where
  pub network_declared : network_in net net_bytes ≡ Ok network
  pub named : port_in network.topology port ≡ Ok place
  pub releases_declared : releases_in network schedule schedule_bytes ≡ Ok releases
  pub rules : IsNetwork network
  pub recorded : IsRecordedRun order network place releases file run
  pub reads_back : ReadsAs file (map (found_of network run) recorded.capture.sent)

-- the first declares this network, in which no port has this name, and the text says so
pub record HasNoPort (net port net_bytes text : List ℕ) (network : DeclaredNetwork) : Type 0 where
  pub network_declared : network_in net net_bytes ≡ Ok network
  pub no_port : IsErr (port_in network.topology port)
  pub written : text ≡ codes "refused port " ++ port ++ codes "\n"

-- the first declares this network, in which a port has this name, and the second no releases for its senders
pub record HasPortAlone (net schedule port net_bytes schedule_bytes : List ℕ) (network : DeclaredNetwork)
    (place : ℕ) : Type 0 where
  pub network_declared : network_in net net_bytes ≡ Ok network
  pub named : port_in network.topology port ≡ Ok place
  pub no_releases : IsErr (releases_in network schedule schedule_bytes)

-- what an answer to `record NET SCHEDULE ORDER PORT` says of the bytes of both files, by its bytes and status; four
-- statuses never come
abbrev pub RecordSays : List ℕ → List ℕ → List ℕ → List ℕ → List ℕ → Order → List ℕ → Status → Type 0
RecordSays net schedule port net_bytes schedule_bytes order text Done =
    (network : DeclaredNetwork) × (place : ℕ) × (releases : List Release) × (run : List Travel)
    × IsRecordOf net schedule port net_bytes schedule_bytes order text network place releases run
RecordSays net schedule port net_bytes schedule_bytes order text Refused =
    (network : DeclaredNetwork) × HasNoPort net port net_bytes text network
RecordSays net schedule port net_bytes schedule_bytes order text Input =
    IsErr (network_in net net_bytes)
    ⊎ ((network : DeclaredNetwork) × (place : ℕ)
    × HasPortAlone net schedule port net_bytes schedule_bytes network place)
RecordSays net schedule port net_bytes schedule_bytes order text status = ⊥

-- so for all words, orders and bytes, and each answer
abbrev pub RecordMeans : Type 0
RecordMeans = (net schedule port net_bytes schedule_bytes : List ℕ) (order : Order) (answer : Answer)
    → IsRecordAnswer net schedule order port net_bytes schedule_bytes answer
    → RecordSays net schedule port net_bytes schedule_bytes order answer.text answer.status
