use Rattle.std.specs.Prelude.{◌≡◌, ◌↔◌, ℕ, ◌/◌, ◌<◌, ◌≤◌, ◌^◌, ◌==◌, List, ◌++◌, length, map, filter, All, Ok}
use Rattle.std.specs.Prelude.{IsPermutation}
use Rattle.std.specs.List.{flat_map}
use Rattle.std.specs.List.Sorted.{IsNonDecreasingBy}
use Rattle.ats_num.specs.declared.time.TheConstants.{PS_PER_NS}
use Rattle.ats_network.specs.Network.{DeclaredNetwork, IsNetwork}
use Rattle.ats_port_rule.specs.Transmission.{Transmission}
use Rattle.ats_trace.specs.Journey.{IsJourney, Travel}
use Rattle.ats_trace.specs.Clocks.{IsLegal}
use Rattle.ats_trace.specs.Projections.{Hop, hops_from}
use Rattle.ats_trace.specs.declared.run.TheConstants.{MAX_FRAMES}
use Rattle.ats_pcap.specs.Capture.{records_of}
use Rattle.ats_pcap.specs.Reading.{Reading, StandsFor, ending_of}
use Rattle.ats_pcap.specs.declared.record.Record.{Record}
use Rattle.ats_capture.specs.Reading.{records_in}
use Rattle.ats_port_capture.specs.Capture.{IsCapture, header, nanos_of, octets_of, record_of}
use Rattle.ats_port_capture.specs.Frame.{identity_of}

-- the record that is found of a transmission: the nanosecond in which it started, the octets of its frame, and the
-- address and VLAN identifier that its sender declares, if it does
abbrev pub found_of : DeclaredNetwork → List Travel → Transmission → Record
found_of network run t = record {
  nanos = nanos_of t;
  octets = octets_of run t.frame;
  identity = identity_of network t.sender;
}

-- these records are read of a file
pub record ReadsAs (file : List ℕ) (found : List Record) : Type 0 where
  -- they are those of its bytes
  pub bytes : records_of file ≡ Ok found
  -- a reader that was fed these, cut anywhere, and for which memory didn't run out, answers them at the end
  pub pieces : (reading : Reading) → StandsFor reading file → ending_of reading.failure reading.position ≡ Ok found
  -- they are what is found where the file is read through a window
  pub window : records_in file ≡ Ok found

-- of the capture of a port one record is read for each transmission, in the order in which they started
abbrev pub CaptureReadsBack : Type 0
CaptureReadsBack = (network : DeclaredNetwork) (run : List Travel) (port : ℕ) (file : List ℕ) → IsNetwork network
    → All (IsJourney network) run → length run ≤ MAX_FRAMES → (capture : IsCapture network run port file)
    → ReadsAs file (map (found_of network run) capture.sent)

-- the capture of a port in any run, both ways: the header, and a record of each of its transmissions, in the order in
-- which they started, each in a second whose number has 32 bits; what becomes of a frame behind the port does not count
abbrev pub CaptureIsMeant : Type 0
CaptureIsMeant = (network : DeclaredNetwork) (run : List Travel) (port : ℕ) (file : List ℕ)
    → IsCapture network run port file
    ↔ ((sent : List Transmission)
    × IsPermutation (map (λ (h : Hop). h.sent) (filter (λ (h : Hop). h.port == port) (hops_from network 0 run))) sent
    × IsNonDecreasingBy (λ (t : Transmission). t.start) sent
    × All (λ (t : Transmission). t.start / PS_PER_NS / 1_000_000_000 < 2 ^ 32) sent
    × (file ≡ header ++ flat_map (record_of network run) sent))

-- no two files are the capture of a port in a legal run
abbrev pub CaptureIsOne : Type 0
CaptureIsOne = (network : DeclaredNetwork) (run : List Travel) (port : ℕ) (file other : List ℕ) → IsNetwork network
    → IsLegal network run → IsCapture network run port file → IsCapture network run port other → file ≡ other
