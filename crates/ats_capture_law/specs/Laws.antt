use Rattle.std.specs.Prelude.{◌≡◌, ℕ, List, Ok}
use Rattle.ats_pcap.specs.declared.record.Record.{Record}
use Rattle.ats_network.specs.Network.{DeclaredNetwork}
use Rattle.ats_trace.specs.Releases.{AreReleases, HaveFewPorts}
use Rattle.ats_capture.specs.Reading.{records_in}
use Rattle.ats_capture.specs.Traffic.{Traffic, traffic_of}
use Rattle.ats_capture_law.specs.Counted.{counted_unless}

-- for all networks, stations and records, what the records come to one after another is what all of them come to
abbrev pub TrafficIsCounted : Type 0
TrafficIsCounted = (network : DeclaredNetwork) (station : ℕ) (records : List Record)
    → traffic_of network station records ≡ counted_unless network station records

-- the releases that the records of a file come to at a station may be run on the network
abbrev pub TrafficMayBeRun : Type 0
TrafficMayBeRun = (network : DeclaredNetwork) (station : ℕ) (bytes : List ℕ) (records : List Record)
    (traffic : Traffic) → records_in bytes ≡ Ok records → traffic_of network station records ≡ Ok traffic
    → AreReleases network traffic.releases

-- the ports of the frames that records come to are, counted together, not more than those of a run may be
abbrev pub TrafficHasFewPorts : Type 0
TrafficHasFewPorts = (network : DeclaredNetwork) (station : ℕ) (records : List Record) (traffic : Traffic)
    → traffic_of network station records ≡ Ok traffic → HaveFewPorts network traffic.releases
