use Rattle.std.specs.Prelude.{◌≡◌, ◌↔◌, ◌⊎◌, ◌++◌, ◌≤◌, ◌<◌, Err, List, Ok, Some, codes, length, ℕ}
use Rattle.ats_topology.specs.Topology.{DeclaredTopology}
use Rattle.ats_network.specs.Network.{DeclaredNetwork}
use Rattle.ats_certificate.specs.declared.row.Row.{Row}
use Rattle.ats_shape.specs.Reading.{shape_of}
use Rattle.ats_shape.specs.declared.fault.ShapeFault.{ShapeFault}
use Rattle.ats_request_file.specs.Reading.{requests_of}
use Rattle.ats_request_file.specs.declared.fault.RequestFault.{RequestFault}
use Rattle.ats_network_file.specs.Reading.{network_of}
use Rattle.ats_network_file.specs.declared.fault.NetFault.{NetFault}
use Rattle.ats_certificate_file.specs.Reading.{rows_of}
use Rattle.ats_certificate_file.specs.declared.fault.CertFault.{CertFault}
use Rattle.ats_schedule.specs.Reading.{releases_of}
use Rattle.ats_schedule.specs.declared.fault.ScheduleFault.{ScheduleFault}
use Rattle.ats_pcap.specs.declared.record.Record.{Record}
use Rattle.ats_capture.specs.Reading.{records_in}
use Rattle.ats_capture.specs.Traffic.{traffic_of}
use Rattle.ats_capture.specs.declared.fault.JoinFault.{JoinFault}
use Rattle.ats_capture.specs.declared.fault.RecordsFault.{RecordsFault}
use Rattle.ats_command_input.specs.Command.{Admit, Bound, Buffers, Capture, Check, Conform, Explain, Fit, Generate}
use Rattle.ats_command_input.specs.Command.{LrqBound, LrqCheck, LrqShape, Peaks, Releases, Replay, Settings, Shape}
use Rattle.ats_command_input.specs.Command.{Show, Unknown, Witness}
use Rattle.ats_command_input.specs.Input.{network_in, rows_in}
use Rattle.ats_command_input.specs.Port.{port_in}
use Rattle.ats_command_input.specs.Station.{station_in}
use Rattle.ats_command_input.specs.declared.order.Order.{Order}
use Rattle.ats_shape.specs.FaultText as shape
use Rattle.ats_network_file.specs.FaultText as network
use Rattle.ats_certificate_file.specs.FaultText as certificate
use Rattle.ats_schedule.specs.FaultText as schedule
use Rattle.ats_request_file.specs.FaultText as requests
use Rattle.ats_capture.specs.FaultText as capture
use Rattle.ats_command_input.specs.Command as table
use Rattle.ats_answer_law.specs.Due.{Told}
use Rattle.ats_answer_law.specs.Faults.{FileFails, LaterFails, NetworkFails, RecordFails, ReleasesFail, RequestsFail}
use Rattle.ats_answer_law.specs.Faults.{RowsFail, ShapeFails, TrafficFails, fault_line}

-- Which file of each command fails, both ways: each part is written out, and there are no others.

-- a file of each kind but captures fails: it has too many bytes, or a first fault, and the text is its line
pub record KindsOfFaultsAreMeant : Type 0 where
  pub shape : (file bytes text : List ℕ)
      → ShapeFails file bytes text
      ↔ (((16777216 < length bytes) × (text ≡ fault_line file (codes "too-long")))
      ⊎ ((fault : ShapeFault) × (length bytes ≤ 16777216) × (shape_of bytes ≡ Err fault)
      × (text ≡ fault_line file (shape.fault_text fault))))
  pub network : (net bytes text : List ℕ)
      → NetworkFails net bytes text
      ↔ (((16777216 < length bytes) × (text ≡ fault_line net (codes "too-long")))
      ⊎ ((fault : NetFault) × (length bytes ≤ 16777216) × (network_of bytes ≡ Err fault)
      × (text ≡ fault_line net (network.fault_text fault))))
  pub rows : (file bytes text : List ℕ) (topology : DeclaredTopology)
      → RowsFail file bytes text topology
      ↔ (((16777216 < length bytes) × (text ≡ fault_line file (codes "too-long")))
      ⊎ ((fault : CertFault) × (length bytes ≤ 16777216) × (rows_of topology bytes ≡ Err fault)
      × (text ≡ fault_line file (certificate.fault_text fault))))
  pub releases : (file bytes text : List ℕ) (over : DeclaredNetwork)
      → ReleasesFail file bytes text over
      ↔ (((33554432 < length bytes) × (text ≡ fault_line file (codes "too-long")))
      ⊎ ((fault : ScheduleFault) × (length bytes ≤ 33554432) × (releases_of over bytes ≡ Err fault)
      × (text ≡ fault_line file (schedule.fault_text fault))))
  pub requests : (file bytes text : List ℕ) (over : DeclaredNetwork)
      → RequestsFail file bytes text over
      ↔ (((16777216 < length bytes) × (text ≡ fault_line file (codes "too-long")))
      ⊎ ((fault : RequestFault) × (length bytes ≤ 16777216) × (requests_of over bytes ≡ Err fault)
      × (text ≡ fault_line file (requests.fault_text fault))))

-- and a capture at a station: its bytes have a fault, or a record is over a limit. A schedule of a port, and what comes
-- behind the network of three files; and the line of a fault
pub record LaterFaultsAreMeant : Type 0 where
  pub line : (file words : List ℕ)
      → fault_line file words ≡ codes "input " ++ file ++ codes " " ++ words ++ codes "\n"
  pub traffic : (station file bytes text : List ℕ) (over : DeclaredNetwork)
      → TrafficFails station file bytes text over
      ↔ ((place : ℕ) × (station_in over.topology station ≡ Ok place)
      × (((fault : RecordsFault) × (records_in bytes ≡ Err fault)
      × (text ≡ fault_line file (capture.records_fault_text fault)))
      ⊎ ((records : List Record) × (fault : JoinFault) × (records_in bytes ≡ Ok records)
      × (traffic_of over place records ≡ Err fault) × (text ≡ fault_line file (capture.fault_text fault)))))
  pub of_port : (port schedule bytes text : List ℕ) (over : DeclaredNetwork)
      → RecordFails port schedule bytes text over
      ↔ ((place : ℕ) × (port_in over.topology port ≡ Ok place) × ReleasesFail schedule bytes text over)
  pub of_three : (certificate schedule rows_bytes bytes text : List ℕ) (declared : DeclaredNetwork)
      → LaterFails certificate schedule rows_bytes bytes text declared
      ↔ (RowsFail certificate rows_bytes text declared.topology
      ⊎ ((rows : List Row) × (rows_in declared.topology certificate rows_bytes ≡ Ok rows)
      × ReleasesFail schedule bytes text declared))

-- the file of a command that has one
pub record FirstFilesAreMeant : Type 0 where
  pub shape : (told : Told) (file text : List ℕ)
      → FileFails told (Shape file) text
      ↔ ((bytes : List ℕ) × (told file ≡ Some bytes) × ShapeFails file bytes text)
  pub lrq_shape : (told : Told) (file text : List ℕ)
      → FileFails told (LrqShape file) text
      ↔ ((bytes : List ℕ) × (told file ≡ Some bytes) × ShapeFails file bytes text)
  pub show : (told : Told) (net text : List ℕ)
      → FileFails told (Show net) text
      ↔ ((bytes : List ℕ) × (told net ≡ Some bytes) × NetworkFails net bytes text)
  pub bound : (told : Told) (net text : List ℕ)
      → FileFails told (Bound net) text
      ↔ ((bytes : List ℕ) × (told net ≡ Some bytes) × NetworkFails net bytes text)
  pub explain : (told : Told) (net text : List ℕ)
      → FileFails told (Explain net) text
      ↔ ((bytes : List ℕ) × (told net ≡ Some bytes) × NetworkFails net bytes text)
  pub generate : (told : Told) (net : List ℕ) (seed count : ℕ) (text : List ℕ)
      → FileFails told (Generate net seed count) text
      ↔ ((bytes : List ℕ) × (told net ≡ Some bytes) × NetworkFails net bytes text)
  pub settings : (told : Told) (net text : List ℕ)
      → FileFails told (Settings net) text
      ↔ ((bytes : List ℕ) × (told net ≡ Some bytes) × NetworkFails net bytes text)
  pub lrq_bound : (told : Told) (net text : List ℕ)
      → FileFails told (LrqBound net) text
      ↔ ((bytes : List ℕ) × (told net ≡ Some bytes) × NetworkFails net bytes text)
  pub witness : (told : Told) (net name text : List ℕ)
      → FileFails told (Witness net name) text
      ↔ ((bytes : List ℕ) × (told net ≡ Some bytes) × NetworkFails net bytes text)
  pub no_command : (told : Told) (text : List ℕ)
      → ¬ FileFails told Unknown text

-- the files of a command that has two, or three: the network is judged first, and the next over what it declares
pub record SecondFilesAreMeant : Type 0 where
  pub check : (told : Told) (net certificate text : List ℕ)
      → FileFails told (Check net certificate) text
      ↔ ((net_bytes : List ℕ) × (told net ≡ Some net_bytes) × ((bytes : List ℕ)
      × (told certificate ≡ Some bytes)
      × (NetworkFails net net_bytes text
      ⊎ ((declared : DeclaredNetwork) × (network_in net net_bytes ≡ Ok declared)
      × RowsFail certificate bytes text declared.topology))))
  pub lrq_check : (told : Told) (net certificate text : List ℕ)
      → FileFails told (LrqCheck net certificate) text
      ↔ ((net_bytes : List ℕ) × (told net ≡ Some net_bytes) × ((bytes : List ℕ)
      × (told certificate ≡ Some bytes)
      × (NetworkFails net net_bytes text
      ⊎ ((declared : DeclaredNetwork) × (network_in net net_bytes ≡ Ok declared)
      × RowsFail certificate bytes text declared.topology))))
  pub buffers : (told : Told) (net certificate text : List ℕ)
      → FileFails told (Buffers net certificate) text
      ↔ ((net_bytes : List ℕ) × (told net ≡ Some net_bytes) × ((bytes : List ℕ)
      × (told certificate ≡ Some bytes)
      × (NetworkFails net net_bytes text
      ⊎ ((declared : DeclaredNetwork) × (network_in net net_bytes ≡ Ok declared)
      × RowsFail certificate bytes text declared.topology))))
  pub conform : (told : Told) (net schedule text : List ℕ)
      → FileFails told (Conform net schedule) text
      ↔ ((net_bytes : List ℕ) × (told net ≡ Some net_bytes) × ((bytes : List ℕ)
      × (told schedule ≡ Some bytes)
      × (NetworkFails net net_bytes text
      ⊎ ((declared : DeclaredNetwork) × (network_in net net_bytes ≡ Ok declared)
      × ReleasesFail schedule bytes text declared))))
  pub fit : (told : Told) (net schedule text : List ℕ)
      → FileFails told (Fit net schedule) text
      ↔ ((net_bytes : List ℕ) × (told net ≡ Some net_bytes) × ((bytes : List ℕ)
      × (told schedule ≡ Some bytes)
      × (NetworkFails net net_bytes text
      ⊎ ((declared : DeclaredNetwork) × (network_in net net_bytes ≡ Ok declared)
      × ReleasesFail schedule bytes text declared))))
  pub replay : (told : Told) (net schedule : List ℕ) (order : Order) (text : List ℕ)
      → FileFails told (Replay net schedule order) text
      ↔ ((net_bytes : List ℕ) × (told net ≡ Some net_bytes) × ((bytes : List ℕ)
      × (told schedule ≡ Some bytes)
      × (NetworkFails net net_bytes text
      ⊎ ((declared : DeclaredNetwork) × (network_in net net_bytes ≡ Ok declared)
      × ReleasesFail schedule bytes text declared))))
  pub port_record : (told : Told) (net schedule port : List ℕ) (order : Order) (text : List ℕ)
      → FileFails told (table.Record net schedule order port) text
      ↔ ((net_bytes : List ℕ) × (told net ≡ Some net_bytes) × ((bytes : List ℕ)
      × (told schedule ≡ Some bytes)
      × (NetworkFails net net_bytes text
      ⊎ ((declared : DeclaredNetwork) × (network_in net net_bytes ≡ Ok declared)
      × RecordFails port schedule bytes text declared))))
  pub admit : (told : Told) (net requests text : List ℕ)
      → FileFails told (Admit net requests) text
      ↔ ((net_bytes : List ℕ) × (told net ≡ Some net_bytes) × ((bytes : List ℕ)
      × (told requests ≡ Some bytes)
      × (NetworkFails net net_bytes text
      ⊎ ((declared : DeclaredNetwork) × (network_in net net_bytes ≡ Ok declared)
      × RequestsFail requests bytes text declared))))
  pub capture : (told : Told) (net station file : List ℕ) (order : Order) (text : List ℕ)
      → FileFails told (Capture net station file order) text
      ↔ ((net_bytes : List ℕ) × (told net ≡ Some net_bytes) × ((bytes : List ℕ)
      × (told file ≡ Some bytes)
      × (NetworkFails net net_bytes text
      ⊎ ((declared : DeclaredNetwork) × (network_in net net_bytes ≡ Ok declared)
      × TrafficFails station file bytes text declared))))
  pub releases : (told : Told) (net station file text : List ℕ)
      → FileFails told (Releases net station file) text
      ↔ ((net_bytes : List ℕ) × (told net ≡ Some net_bytes) × ((bytes : List ℕ)
      × (told file ≡ Some bytes)
      × (NetworkFails net net_bytes text
      ⊎ ((declared : DeclaredNetwork) × (network_in net net_bytes ≡ Ok declared)
      × TrafficFails station file bytes text declared))))
  pub peaks : (told : Told) (net certificate schedule : List ℕ) (order : Order) (text : List ℕ)
      → FileFails told (Peaks net certificate schedule order) text
      ↔ ((net_bytes : List ℕ) × (told net ≡ Some net_bytes) × ((rows_bytes : List ℕ)
      × (told certificate ≡ Some rows_bytes) × ((bytes : List ℕ) × (told schedule ≡ Some bytes)
      × (NetworkFails net net_bytes text
      ⊎ ((declared : DeclaredNetwork) × (network_in net net_bytes ≡ Ok declared)
      × LaterFails certificate schedule rows_bytes bytes text declared)))))

-- of all of these
pub record FileFaultsAreMeant : Type 0 where
  pub kinds_of_faults : KindsOfFaultsAreMeant
  pub later_faults : LaterFaultsAreMeant
  pub first_files : FirstFilesAreMeant
  pub second_files : SecondFilesAreMeant
