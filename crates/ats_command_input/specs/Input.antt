use Rattle.std.specs.Prelude.{ℕ, nat_lt, List, length, codes, Result, Ok, Err, if◌then◌else◌}
use Rattle.ats_shape.specs.Shape.{DeclaredShape}
use Rattle.ats_shape.specs.Reading.{shape_of}
use Rattle.ats_shape.specs.FaultText as shape
use Rattle.ats_network.specs.Network.{DeclaredNetwork}
use Rattle.ats_network_file.specs.Reading.{network_of}
use Rattle.ats_network_file.specs.FaultText as network
use Rattle.ats_topology.specs.Topology.{DeclaredTopology}
use Rattle.ats_certificate.specs.declared.row.Row.{Row}
use Rattle.ats_certificate_file.specs.Reading.{rows_of}
use Rattle.ats_certificate_file.specs.FaultText as certificate
use Rattle.ats_trace.specs.declared.journey.Release.{Release}
use Rattle.ats_schedule.specs.Reading.{releases_of}
use Rattle.ats_schedule.specs.FaultText as schedule
use Rattle.ats_pcap.specs.declared.record.Record.{Record}
use Rattle.ats_capture.specs.Reading as capture
use Rattle.ats_capture.specs.Traffic.{Traffic, traffic_of}
use Rattle.ats_capture.specs.FaultText.{records_fault_text}
use Rattle.ats_capture.specs.FaultText as traffic
use Rattle.ats_requests.specs.declared.request.Request.{Request}
use Rattle.ats_request_file.specs.Reading.{requests_of}
use Rattle.ats_request_file.specs.FaultText as requests
use Rattle.ats_num.specs.Failure.{◌>>=◌}
use Rattle.ats_command_input.specs.Answer.{Answer, input_answer}

-- the bytes of a file: more than so many are too long, whatever they are
abbrev pub bytes_in : ℕ → List ℕ → List ℕ → Result (List ℕ) Answer
bytes_in most file bytes = if nat_lt most (length bytes) then Err (input_answer file (codes "too-long")) else Ok bytes

-- what a file declares, or the answer to its first fault, for which there are these words
abbrev pub declared_in : {A F : Type 0} → List ℕ → (F → List ℕ) → Result A F → Result A Answer
declared_in file words (Ok value) = Ok value
declared_in file words (Err fault) = Err (input_answer file (words fault))

-- the shape that a file of these bytes declares
unfoldable pub shape_in : List ℕ → List ℕ → Result DeclaredShape Answer
shape_in file bytes = do
  text ← bytes_in 16777216 file bytes
  declared_in file shape.fault_text (shape_of text)

-- the network that a file of these bytes declares
unfoldable pub network_in : List ℕ → List ℕ → Result DeclaredNetwork Answer
network_in file bytes = do
  text ← bytes_in 16777216 file bytes
  declared_in file network.fault_text (network_of text)

-- the rows that a certificate's file of these bytes declares for the ports of a topology
unfoldable pub rows_in : DeclaredTopology → List ℕ → List ℕ → Result (List Row) Answer
rows_in topology file bytes = do
  text ← bytes_in 16777216 file bytes
  declared_in file certificate.fault_text (rows_of topology text)

-- the releases that a schedule's file of these bytes declares for the senders of a network
unfoldable pub releases_in : DeclaredNetwork → List ℕ → List ℕ → Result (List Release) Answer
releases_in network file bytes = do
  text ← bytes_in 33554432 file bytes
  declared_in file schedule.fault_text (releases_of network text)

-- the requests that a file of these bytes makes over a network
unfoldable pub requests_in : DeclaredNetwork → List ℕ → List ℕ → Result (List Request) Answer
requests_in network file bytes = do
  text ← bytes_in 16777216 file bytes
  declared_in file requests.fault_text (requests_of network text)

-- the records that a capture's file of these bytes has
unfoldable pub records_in : List ℕ → List ℕ → Result (List Record) Answer
records_in file bytes = declared_in file records_fault_text (capture.records_in bytes)

-- what they come to at a station
unfoldable pub traffic_in : DeclaredNetwork → ℕ → List ℕ → List ℕ → Result Traffic Answer
traffic_in network station file bytes = do
  records ← records_in file bytes
  declared_in file traffic.fault_text (traffic_of network station records)
