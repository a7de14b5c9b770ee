use Rattle.std.specs.Prelude.{◌≡◌, ℕ, ◌<◌, ◌≤◌, ◌⊎◌, List, ◌++◌, length, codes, Result, Ok, Err}
use Rattle.ats_topology.specs.Topology.{DeclaredTopology}
use Rattle.ats_network.specs.Network.{DeclaredNetwork}
use Rattle.ats_shape.specs.FaultText as shape
use Rattle.ats_shape.specs.Reading.{shape_of}
use Rattle.ats_network_file.specs.FaultText as network
use Rattle.ats_network_file.specs.Reading.{network_of}
use Rattle.ats_certificate.specs.declared.row.Row.{Row}
use Rattle.ats_certificate_file.specs.FaultText as certificate
use Rattle.ats_certificate_file.specs.Reading.{rows_of}
use Rattle.ats_schedule.specs.FaultText as schedule
use Rattle.ats_schedule.specs.Reading.{releases_of}
use Rattle.ats_request_file.specs.FaultText as requests
use Rattle.ats_request_file.specs.Reading.{requests_of}
use Rattle.ats_pcap.specs.declared.record.Record.{Record}
use Rattle.ats_capture.specs.FaultText as capture
use Rattle.ats_capture.specs.Reading.{records_in}
use Rattle.ats_capture.specs.Traffic.{traffic_of}
use Rattle.ats_capture.specs.declared.fault.JoinFault.{JoinFault}
use Rattle.ats_capture.specs.declared.fault.RecordsFault.{RecordsFault}
use Rattle.ats_command_input.specs.Answer.{Answer}
use Rattle.ats_command_input.specs.Command.{Command, Shape, Show, Bound, Explain, Check, Conform, Admit, Replay}
use Rattle.ats_command_input.specs.Command.{Capture, Generate, Settings, Buffers, Peaks, LrqShape, LrqBound, LrqCheck}
use Rattle.ats_command_input.specs.Command.{Witness, Releases, Fit, Unknown}
use Rattle.ats_command_input.specs.Command as table
use Rattle.ats_command_input.specs.Input.{network_in, rows_in}
use Rattle.ats_command_input.specs.Port.{port_in}
use Rattle.ats_command_input.specs.Station.{station_in}
use Rattle.ats_command_input.specs.declared.status.Status.TheVariants.{Input}
use Rattle.ats_command_due.specs.Due.{IsDueAnswer}
use Rattle.ats_answer_law.specs.Due.{Of, OfBoth, OfThree, Told}

-- What is printed where a file does not declare what it should.

-- the line `input FILE FAULT`
abbrev pub fault_line : List ℕ → List ℕ → List ℕ
fault_line file words = codes "input " ++ file ++ codes " " ++ words ++ codes "\n"

-- a file has more than so many bytes, and the text says that they are too many
pub record IsTooLong (most : ℕ) (file bytes text : List ℕ) : Type 0 where
  pub long : most < length bytes
  pub written : text ≡ fault_line file (codes "too-long")

-- a file of these bytes, at most so many, has this first fault, and the text gives it in its words
pub record IsFaulty {A F : Type 0} (most : ℕ) (declared : List ℕ → Result A F) (words : F → List ℕ)
    (file bytes text : List ℕ) (fault : F) : Type 0 where
  pub few : length bytes ≤ most
  pub first : declared bytes ≡ Err fault
  pub written : text ≡ fault_line file (words fault)

-- one of both
abbrev pub IsAtFault : {A F : Type 0} → ℕ → (List ℕ → Result A F) → (F → List ℕ) → List ℕ → List ℕ → List ℕ → Type 0
IsAtFault {A} {F} most declared words file bytes text =
    IsTooLong most file bytes text ⊎ ((fault : F) × IsFaulty most declared words file bytes text fault)

-- so it is of each kind of file but captures
abbrev pub ShapeFails : List ℕ → List ℕ → List ℕ → Type 0
ShapeFails file bytes text = IsAtFault 16777216 shape_of shape.fault_text file bytes text

abbrev pub NetworkFails : List ℕ → List ℕ → List ℕ → Type 0
NetworkFails net bytes text = IsAtFault 16777216 network_of network.fault_text net bytes text

abbrev pub RowsFail : List ℕ → List ℕ → List ℕ → DeclaredTopology → Type 0
RowsFail file bytes text topology = IsAtFault 16777216 (rows_of topology) certificate.fault_text file bytes text

abbrev pub ReleasesFail : List ℕ → List ℕ → List ℕ → DeclaredNetwork → Type 0
ReleasesFail file bytes text over = IsAtFault 33554432 (releases_of over) schedule.fault_text file bytes text

abbrev pub RequestsFail : List ℕ → List ℕ → List ℕ → DeclaredNetwork → Type 0
RequestsFail file bytes text network = IsAtFault 16777216 (requests_of network) requests.fault_text file bytes text

-- the bytes of a capture's file have a fault, and the text gives it in its words
pub record HasNoRecords (file bytes text : List ℕ) (fault : RecordsFault) : Type 0 where
  pub first : records_in bytes ≡ Err fault
  pub written : text ≡ fault_line file (capture.records_fault_text fault)

-- the file has records, of which one is over a limit of the releases of a station, and the text names it
pub record IsOverLimit (file bytes text : List ℕ) (over : DeclaredNetwork) (place : ℕ) (records : List Record)
    (fault : JoinFault) : Type 0 where
  pub read : records_in bytes ≡ Ok records
  pub first : traffic_of over place records ≡ Err fault
  pub written : text ≡ fault_line file (capture.fault_text fault)

-- one of both, at the station that a word names
abbrev pub TrafficFails : List ℕ → List ℕ → List ℕ → List ℕ → DeclaredNetwork → Type 0
TrafficFails station file bytes text over =
    (place : ℕ) × (station_in over.topology station ≡ Ok place)
    × (((fault : RecordsFault) × HasNoRecords file bytes text fault)
    ⊎ ((records : List Record) × (fault : JoinFault) × IsOverLimit file bytes text over place records fault))

-- a schedule's file fails over a network in which a port has a name
abbrev pub RecordFails : List ℕ → List ℕ → List ℕ → List ℕ → DeclaredNetwork → Type 0
RecordFails port schedule bytes text over =
    (place : ℕ) × (port_in over.topology port ≡ Ok place) × ReleasesFail schedule bytes text over

-- the first of two files fails, or it declares a network, over which the second fails
abbrev pub OneFails : List ℕ → List ℕ → List ℕ → (DeclaredNetwork → Type 0) → Type 0
OneFails net net_bytes text Fails =
    NetworkFails net net_bytes text
    ⊎ ((declared : DeclaredNetwork) × (network_in net net_bytes ≡ Ok declared) × Fails declared)

-- over a network the file of a certificate fails, or it declares rows, and then the file of a schedule does
abbrev pub LaterFails : List ℕ → List ℕ → List ℕ → List ℕ → List ℕ → DeclaredNetwork → Type 0
LaterFails certificate schedule rows_bytes bytes text declared =
    RowsFail certificate rows_bytes text declared.topology
    ⊎ ((rows : List Row) × (rows_in declared.topology certificate rows_bytes ≡ Ok rows)
    × ReleasesFail schedule bytes text declared)

-- which file of a command fails, where it is told so: the network's is judged first
abbrev pub FileFails : Told → Command → List ℕ → Type 0
FileFails told (Shape file) text = Of told file (λ bytes. ShapeFails file bytes text)
FileFails told (Show net) text = Of told net (λ bytes. NetworkFails net bytes text)
FileFails told (Bound net) text = Of told net (λ bytes. NetworkFails net bytes text)
FileFails told (Explain net) text = Of told net (λ bytes. NetworkFails net bytes text)
FileFails told (Check net certificate) text =
    OfBoth told net certificate (λ net_bytes bytes.
    OneFails net net_bytes text (λ declared. RowsFail certificate bytes text declared.topology))
FileFails told (Conform net schedule) text =
    OfBoth told net schedule (λ net_bytes bytes. OneFails net net_bytes text (ReleasesFail schedule bytes text))
FileFails told (Admit net requests) text =
    OfBoth told net requests (λ net_bytes bytes.
    OneFails net net_bytes text (λ declared. RequestsFail requests bytes text declared))
FileFails told (Replay net schedule order) text =
    OfBoth told net schedule (λ net_bytes bytes. OneFails net net_bytes text (ReleasesFail schedule bytes text))
FileFails told (Capture net station file order) text =
    OfBoth told net file (λ net_bytes bytes. OneFails net net_bytes text (TrafficFails station file bytes text))
FileFails told (Generate net seed count) text = Of told net (λ bytes. NetworkFails net bytes text)
FileFails told (Settings net) text = Of told net (λ bytes. NetworkFails net bytes text)
FileFails told (Buffers net certificate) text =
    OfBoth told net certificate (λ net_bytes bytes.
    OneFails net net_bytes text (λ declared. RowsFail certificate bytes text declared.topology))
FileFails told (Peaks net certificate schedule order) text =
    OfThree told net certificate schedule (λ net_bytes rows_bytes bytes.
    OneFails net net_bytes text (LaterFails certificate schedule rows_bytes bytes text))
FileFails told (LrqShape file) text = Of told file (λ bytes. ShapeFails file bytes text)
FileFails told (LrqBound net) text = Of told net (λ bytes. NetworkFails net bytes text)
FileFails told (LrqCheck net certificate) text =
    OfBoth told net certificate (λ net_bytes bytes.
    OneFails net net_bytes text (λ declared. RowsFail certificate bytes text declared.topology))
FileFails told (table.Record net schedule order port) text =
    OfBoth told net schedule (λ net_bytes bytes. OneFails net net_bytes text (RecordFails port schedule bytes text))
FileFails told (Witness net name) text = Of told net (λ bytes. NetworkFails net bytes text)
FileFails told (Releases net station file) text =
    OfBoth told net file (λ net_bytes bytes. OneFails net net_bytes text (TrafficFails station file bytes text))
FileFails told (Fit net schedule) text =
    OfBoth told net schedule (λ net_bytes bytes. OneFails net net_bytes text (ReleasesFail schedule bytes text))
FileFails told Unknown text = ⊥

-- where Input is due to a command, the text names the file that fails, and its first fault in its words
abbrev pub FaultsAreTold : Type 0
FaultsAreTold = (told : Told) (command : Command) (answer : Answer)
    → IsDueAnswer told command answer → answer.status ≡ Input → FileFails told command answer.text
