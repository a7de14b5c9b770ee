use Rattle.std.specs.Prelude.{◌≡◌, ◌↔◌, ℕ, List, ◌++◌, length, filter, filter_map, Option, Some, None, Ok}
use Rattle.std.specs.List.{enumerate_from}
use Rattle.ats_network.specs.Network.{DeclaredNetwork, IsNetwork}
use Rattle.ats_certificate.specs.declared.row.Row.{Row}
use Rattle.ats_trace.specs.Journey.{Travel}
use Rattle.ats_trace.specs.Releases.{AreReleases, HaveFewPorts}
use Rattle.ats_conform.specs.Releases.{AllKeepBuckets}
use Rattle.ats_schedule.specs.Text.{schedule_text}
use Rattle.ats_replay.specs.Departures.{departures_text}
use Rattle.ats_pcap.specs.declared.record.Record.{Record}
use Rattle.ats_capture.specs.Counts.{counts_text}
use Rattle.ats_capture.specs.Traffic.{Traffic}
use Rattle.ats_capture_law.specs.Counted.{first_over, is_oversize, is_unidentified, release_of}
use Rattle.ats_command_input.specs.Command.{Releases}
use Rattle.ats_command_input.specs.Input.{network_in, records_in, releases_in, traffic_in}
use Rattle.ats_command_input.specs.Station.{station_in}
use Rattle.ats_command_input.specs.declared.order.Order.{Order}
use Rattle.ats_command_input.specs.declared.status.Status.TheVariants.{Done}
use Rattle.ats_command_due.specs.Due.{IsDueAnswer, told_bytes}
use Rattle.ats_command_due.specs.Replayed.{IsRunIn}
use Rattle.ats_command_law.specs.CaptureMeaning.{IsCapturedRun, IsCounted}
use Rattle.ats_command_law.specs.ConformBounds.{AllDelaysAreWithin}
use Rattle.ats_command_law.specs.Meaning.{IsAccepted}
use Rattle.ats_command_law.specs.ReleasesBounds.{IsCaptureWithin, IsToldOn}
use Rattle.ats_command_law.specs.ReleasesMeaning.{AreReleased}

-- What the words come to that say what is due to a capture, both ways: each part of them is written out, and there are
-- no others.

-- a file has these records, none of them over a limit, and they come to this traffic: the releases of those that have
-- one, how many there are, how many belong to no stream, and how many to one and are longer than a frame
pub record HasTraffic (file bytes : List ℕ) (network : DeclaredNetwork) (place : ℕ) (traffic : Traffic)
    (records : List Record) : Type 0 where
  pub read : records_in file bytes ≡ Ok records
  pub none_over : first_over network place records ≡ None
  pub releases : traffic.releases ≡ filter_map (release_of network place records) (enumerate_from 0 records)
  pub counted : traffic.records ≡ length records
  pub unidentified : traffic.unidentified ≡ length (filter (is_unidentified network place) records)
  pub oversize : traffic.oversize ≡ length (filter (is_oversize network place) records)

-- so the traffic is that of the file. Refuses traffic of other records, and with another count
pub record CountingIsMeant : Type 0 where
  pub parts : (file bytes : List ℕ) (network : DeclaredNetwork) (place : ℕ) (traffic : Traffic)
      (records : List Record) → IsCounted file bytes network place traffic records
      ↔ HasTraffic file bytes network place traffic records
  pub in_file : (file bytes : List ℕ) (network : DeclaredNetwork) (place : ℕ) (traffic : Traffic)
      (records : List Record) → IsCounted file bytes network place traffic records
      → traffic_in network place file bytes ≡ Ok traffic

-- the run that `capture` prints, of two files: what they declare, the rules, the run with the releases of the traffic,
-- and the text with the counts behind it. Refuses a text without the counts, and a run of other releases
pub record Prints (net station file net_bytes file_bytes : List ℕ) (order : Order) (text : List ℕ)
    (network : DeclaredNetwork) (place : ℕ) (records : List Record) (traffic : Traffic) (run : List Travel)
    : Type 0 where
  pub network_declared : network_in net net_bytes ≡ Ok network
  pub named : station_in network.topology station ≡ Ok place
  pub has : HasTraffic file file_bytes network place traffic records
  pub rules : IsNetwork network
  pub run_of_releases : IsRunIn order network traffic.releases run
  pub written : text ≡ departures_text network run ++ counts_text traffic

abbrev pub CapturedRunIsMeant : Type 0
CapturedRunIsMeant = (net station file net_bytes file_bytes : List ℕ) (order : Order) (text : List ℕ)
    (network : DeclaredNetwork) (place : ℕ) (records : List Record) (traffic : Traffic) (run : List Travel)
    → IsCapturedRun net station file net_bytes file_bytes order text network place records traffic run
    ↔ Prints net station file net_bytes file_bytes order text network place records traffic run

-- the schedule that `releases` prints, of two files: what they declare, the rules, releases that may be run, and their
-- text, which is read back as these. Refuses releases that no run may have, and a text that is read back otherwise
pub record PrintsSchedule (net station file net_bytes file_bytes text : List ℕ) (network : DeclaredNetwork)
    (place : ℕ) (records : List Record) (traffic : Traffic) : Type 0 where
  pub network_declared : network_in net net_bytes ≡ Ok network
  pub named : station_in network.topology station ≡ Ok place
  pub has : HasTraffic file file_bytes network place traffic records
  pub rules : IsNetwork network
  pub may_be_run : AreReleases network traffic.releases
  pub few_ports : HaveFewPorts network traffic.releases
  pub written : text ≡ schedule_text network traffic.releases
  pub reads_back : (schedule : List ℕ) → releases_in network schedule text ≡ Ok traffic.releases

abbrev pub ReleasedIsMeant : Type 0
ReleasedIsMeant = (net station file net_bytes file_bytes text : List ℕ) (network : DeclaredNetwork) (place : ℕ)
    (records : List Record) (traffic : Traffic)
    → AreReleased net station file net_bytes file_bytes text network place records traffic
    ↔ PrintsSchedule net station file net_bytes file_bytes text network place records traffic

-- a schedule is told that `releases` prints exactly where both are so. It is a premise: refuses one that asks for more
abbrev pub TellingIsMeant : Type 0
TellingIsMeant = (told : List ℕ → Option (List ℕ)) (net station file schedule released : List ℕ)
    → IsToldOn told net station file schedule released
    ↔ (IsDueAnswer told (Releases net station file) (record { status = Done; text = released })
    × (told schedule ≡ Some released))

-- a capture is within what a certificate says exactly where all four are so
abbrev pub WithinIsMeant : Type 0
WithinIsMeant = (told : List ℕ → Option (List ℕ)) (net certificate station file : List ℕ) (order : Order)
    (checked captured : List ℕ) (network : DeclaredNetwork) (rows : List Row) (place : ℕ) (records : List Record)
    (traffic : Traffic) (run : List Travel)
    → IsCaptureWithin told net certificate station file order checked captured network rows place records traffic run
    ↔ (IsAccepted net certificate (told_bytes told net) (told_bytes told certificate) checked network rows
    × Prints net station file (told_bytes told net) (told_bytes told file) order captured network place records traffic
    run
    × AllKeepBuckets network traffic.releases × AllDelaysAreWithin network rows run)

pub record CapturesAreMeant : Type 0 where
  pub counted : CountingIsMeant
  pub run : CapturedRunIsMeant
  pub released : ReleasedIsMeant
  pub told : TellingIsMeant
  pub within : WithinIsMeant
