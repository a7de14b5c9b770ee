use Rattle.std.specs.Prelude.{◌≡◌, ◌≢◌, ℕ, ◌<◌, ◌≤◌, List, ◌++◌, length, take, codes, Result, Ok, Err}
use Rattle.ats_topology.specs.Topology.{DeclaredTopology}
use Rattle.ats_network.specs.Network.{DeclaredNetwork}
use Rattle.ats_shape.specs.FaultText as shape
use Rattle.ats_shape.specs.Reading.{shape_of}
use Rattle.ats_network_file.specs.FaultText as network
use Rattle.ats_network_file.specs.Reading.{network_of}
use Rattle.ats_certificate_file.specs.FaultText as certificate
use Rattle.ats_certificate_file.specs.Reading.{rows_of}
use Rattle.ats_schedule.specs.FaultText as schedule
use Rattle.ats_schedule.specs.Reading.{releases_of}
use Rattle.ats_request_file.specs.FaultText as requests
use Rattle.ats_request_file.specs.Reading.{requests_of}
use Rattle.ats_pcap.specs.Capture.{records_of}
use Rattle.ats_pcap.specs.FaultText as capture
use Rattle.ats_capture.specs.FaultText as traffic
use Rattle.ats_capture.specs.Traffic.{Traffic, traffic_of}
use Rattle.ats_capture.specs.declared.fault.JoinFault.{JoinFault}
use Rattle.ats_pcap.specs.declared.fault.CaptureFault.{CaptureFault}
use Rattle.ats_pcap.specs.declared.fault.CaptureFault.TheVariants.{CutShort}
use Rattle.ats_pcap.specs.declared.record.Record.{Record}
use Rattle.ats_command_input.specs.Answer.{Answer}
use Rattle.ats_command_input.specs.Input.{shape_in, network_in, rows_in, releases_in, requests_in, records_in}
use Rattle.ats_command_input.specs.Input.{traffic_in}
use Rattle.ats_command_input.specs.declared.status.Status.TheVariants.{Input}

-- What is taken from the files of a call is what their bytes declare.

-- the line `input FILE FAULT`, and the status Input
abbrev pub told_fault : List ℕ → List ℕ → Answer
told_fault file words = record {
  status = Input;
  text = codes "input " ++ file ++ codes " " ++ words ++ codes "\n";
}

-- of a file of these bytes, at most so many, that is taken which they declare, or their fault is told in its words; of
-- more bytes it is told that they are too many
pub record IsTakenOf {A F : Type 0} (most : ℕ) (declared : List ℕ → Result A F) (words : F → List ℕ)
    (taken : List ℕ → List ℕ → Result A Answer) (file bytes : List ℕ) : Type 0 where
  pub value : (x : A) → length bytes ≤ most → declared bytes ≡ Ok x → taken file bytes ≡ Ok x
  pub fault : (e : F) → length bytes ≤ most → declared bytes ≡ Err e
      → taken file bytes ≡ Err (told_fault file (words e))
  pub too_long : most < length bytes → taken file bytes ≡ Err (told_fault file (codes "too-long"))

abbrev pub IsTaken : {A F : Type 0} → ℕ → (List ℕ → Result A F) → (F → List ℕ)
    → (List ℕ → List ℕ → Result A Answer) → Type 0
IsTaken most declared words taken = (file bytes : List ℕ) → IsTakenOf most declared words taken file bytes

-- the same of a capture. Of more bytes than so many the first of them are judged by themselves: their fault is told,
-- but not that they end inside a record, and where they have none it is told that the bytes are too many
pub record CaptureIsTaken (file bytes : List ℕ) : Type 0 where
  pub value : (records : List Record) → length bytes ≤ 268435456 → records_of bytes ≡ Ok records
      → records_in file bytes ≡ Ok records
  pub fault : (e : CaptureFault) → length bytes ≤ 268435456 → records_of bytes ≡ Err e
      → records_in file bytes ≡ Err (told_fault file (capture.fault_text e))
  pub long_fault : (e : CaptureFault) → ((n : ℕ) → e ≢ CutShort n) → 268435456 < length bytes
      → records_of (take 268435456 bytes) ≡ Err e
      → records_in file bytes ≡ Err (told_fault file (capture.fault_text e))
  pub long_and_cut : (n : ℕ) → 268435456 < length bytes → records_of (take 268435456 bytes) ≡ Err (CutShort n)
      → records_in file bytes ≡ Err (told_fault file (codes "too-long"))
  pub long_and_whole : (records : List Record) → 268435456 < length bytes
      → records_of (take 268435456 bytes) ≡ Ok records
      → records_in file bytes ≡ Err (told_fault file (codes "too-long"))

-- the traffic of a capture's file is that of its records at the station
pub record TrafficIsTaken (network : DeclaredNetwork) (station : ℕ) (file bytes : List ℕ) (records : List Record)
    : Type 0 where
  pub value : (come_to : Traffic) → records_in file bytes ≡ Ok records
      → traffic_of network station records ≡ Ok come_to
      → traffic_in network station file bytes ≡ Ok come_to
  pub fault : (e : JoinFault) → records_in file bytes ≡ Ok records → traffic_of network station records ≡ Err e
      → traffic_in network station file bytes ≡ Err (told_fault file (traffic.fault_text e))

-- so it is of each kind of file
pub record FilesAreTaken : Type 0 where
  pub shapes : IsTaken 16777216 shape_of shape.fault_text shape_in
  pub networks : IsTaken 16777216 network_of network.fault_text network_in
  pub certificates : (topology : DeclaredTopology)
      → IsTaken 16777216 (rows_of topology) certificate.fault_text (rows_in topology)
  pub schedules : (over : DeclaredNetwork)
      → IsTaken 33554432 (releases_of over) schedule.fault_text (releases_in over)
  pub requested : (over : DeclaredNetwork)
      → IsTaken 16777216 (requests_of over) requests.fault_text (requests_in over)
  pub captures : (file bytes : List ℕ) → CaptureIsTaken file bytes
  pub traffics : (over : DeclaredNetwork) (station : ℕ) (file bytes : List ℕ) (records : List Record)
      → TrafficIsTaken over station file bytes records
