use Rattle.std.specs.Prelude.{◌≡◌, ℕ, ◌<◌, ◌≤◌, List, length, codes, Ok, Err}
use Rattle.ats_topology.specs.Topology.{DeclaredTopology}
use Rattle.ats_network.specs.Network.{DeclaredNetwork}
use Rattle.ats_shape.specs.FaultText as shapes
use Rattle.ats_shape.specs.Reading.{shape_of}
use Rattle.ats_shape.specs.Shape.{DeclaredShape}
use Rattle.ats_shape.specs.declared.fault.ShapeFault.{ShapeFault}
use Rattle.ats_network_file.specs.FaultText as networks
use Rattle.ats_network_file.specs.Reading.{network_of}
use Rattle.ats_network_file.specs.declared.fault.NetFault.{NetFault}
use Rattle.ats_certificate.specs.declared.row.Row.{Row}
use Rattle.ats_certificate_file.specs.FaultText as certificates
use Rattle.ats_certificate_file.specs.Reading.{rows_of}
use Rattle.ats_certificate_file.specs.declared.fault.CertFault.{CertFault}
use Rattle.ats_trace.specs.declared.journey.Release.{Release}
use Rattle.ats_schedule.specs.FaultText as schedules
use Rattle.ats_schedule.specs.Reading.{releases_of}
use Rattle.ats_schedule.specs.declared.fault.ScheduleFault.{ScheduleFault}
use Rattle.ats_requests.specs.declared.request.Request.{Request}
use Rattle.ats_request_file.specs.FaultText as requests
use Rattle.ats_request_file.specs.Reading.{requests_of}
use Rattle.ats_request_file.specs.declared.fault.RequestFault.{RequestFault}
use Rattle.ats_pcap.specs.declared.record.Record.{Record}
use Rattle.ats_capture.specs.FaultText.{records_fault_text}
use Rattle.ats_capture.specs.Reading as captures
use Rattle.ats_capture.specs.declared.fault.RecordsFault.{RecordsFault}
use Rattle.ats_command_input.specs.Answer.{Answer}
use Rattle.ats_command_input.specs.Input.{network_in, records_in, releases_in, requests_in, rows_in, shape_in}
use Rattle.ats_command_input.specs.Input.{traffic_in}
use Rattle.ats_plain_answer_law.specs.Lines.{not_taken}

-- What is taken from a file, by its bytes: of more than so many nothing, whatever they are; of others what they
-- declare, or nothing where they have a fault. Where nothing is taken, the line says why. (How many bytes a capture may
-- have is told with its records, in `ats_plain_file_law`.)

-- a shape, of at most 16777216 bytes
pub record ShapesAreTaken : Type 0 where
  pub too_long : (file bytes : List ℕ) → 16777216 < length bytes
      → shape_in file bytes ≡ Err (not_taken file (codes "too-long"))
  pub faulty : (file bytes : List ℕ) (fault : ShapeFault) → length bytes ≤ 16777216 → shape_of bytes ≡ Err fault
      → shape_in file bytes ≡ Err (not_taken file (shapes.fault_text fault))
  pub declared : (file bytes : List ℕ) (shape : DeclaredShape) → length bytes ≤ 16777216 → shape_of bytes ≡ Ok shape
      → shape_in file bytes ≡ Ok shape

-- a network, of at most 16777216 bytes
pub record NetworksAreTaken : Type 0 where
  pub too_long : (file bytes : List ℕ) → 16777216 < length bytes
      → network_in file bytes ≡ Err (not_taken file (codes "too-long"))
  pub faulty : (file bytes : List ℕ) (fault : NetFault) → length bytes ≤ 16777216 → network_of bytes ≡ Err fault
      → network_in file bytes ≡ Err (not_taken file (networks.fault_text fault))
  pub declared : (file bytes : List ℕ) (network : DeclaredNetwork) → length bytes ≤ 16777216
      → network_of bytes ≡ Ok network
      → network_in file bytes ≡ Ok network

-- the rows of a certificate for the ports of a topology, of at most 16777216 bytes
pub record RowsAreTaken : Type 0 where
  pub too_long : (topology : DeclaredTopology) (file bytes : List ℕ) → 16777216 < length bytes
      → rows_in topology file bytes ≡ Err (not_taken file (codes "too-long"))
  pub faulty : (topology : DeclaredTopology) (file bytes : List ℕ) (fault : CertFault) → length bytes ≤ 16777216
      → rows_of topology bytes ≡ Err fault
      → rows_in topology file bytes ≡ Err (not_taken file (certificates.fault_text fault))
  pub declared : (topology : DeclaredTopology) (file bytes : List ℕ) (rows : List Row) → length bytes ≤ 16777216
      → rows_of topology bytes ≡ Ok rows
      → rows_in topology file bytes ≡ Ok rows

-- the releases of a schedule for the senders of a network, of at most 33554432 bytes
pub record SchedulesAreTaken : Type 0 where
  pub too_long : (network : DeclaredNetwork) (file bytes : List ℕ) → 33554432 < length bytes
      → releases_in network file bytes ≡ Err (not_taken file (codes "too-long"))
  pub faulty : (network : DeclaredNetwork) (file bytes : List ℕ) (fault : ScheduleFault) → length bytes ≤ 33554432
      → releases_of network bytes ≡ Err fault
      → releases_in network file bytes ≡ Err (not_taken file (schedules.fault_text fault))
  pub declared : (network : DeclaredNetwork) (file bytes : List ℕ) (releases : List Release)
      → length bytes ≤ 33554432 → releases_of network bytes ≡ Ok releases
      → releases_in network file bytes ≡ Ok releases

-- the requests over a network, of at most 16777216 bytes
pub record RequestFilesAreTaken : Type 0 where
  pub too_long : (network : DeclaredNetwork) (file bytes : List ℕ) → 16777216 < length bytes
      → requests_in network file bytes ≡ Err (not_taken file (codes "too-long"))
  pub faulty : (network : DeclaredNetwork) (file bytes : List ℕ) (fault : RequestFault) → length bytes ≤ 16777216
      → requests_of network bytes ≡ Err fault
      → requests_in network file bytes ≡ Err (not_taken file (requests.fault_text fault))
  pub declared : (network : DeclaredNetwork) (file bytes : List ℕ) (asked : List Request) → length bytes ≤ 16777216
      → requests_of network bytes ≡ Ok asked
      → requests_in network file bytes ≡ Ok asked

-- of a capture its records, or the line of their first fault; and where they are not taken, no traffic is, with the
-- same line
pub record CapturesAreTaken : Type 0 where
  pub faulty : (file bytes : List ℕ) (fault : RecordsFault) → captures.records_in bytes ≡ Err fault
      → records_in file bytes ≡ Err (not_taken file (records_fault_text fault))
  pub declared : (file bytes : List ℕ) (records : List Record) → captures.records_in bytes ≡ Ok records
      → records_in file bytes ≡ Ok records
  pub unread : (network : DeclaredNetwork) (station : ℕ) (file bytes : List ℕ) (due : Answer)
      → records_in file bytes ≡ Err due
      → traffic_in network station file bytes ≡ Err due

pub record InputsAreTaken : Type 0 where
  pub shapes : ShapesAreTaken
  pub networks : NetworksAreTaken
  pub rows : RowsAreTaken
  pub schedules : SchedulesAreTaken
  pub requests : RequestFilesAreTaken
  pub captures : CapturesAreTaken
