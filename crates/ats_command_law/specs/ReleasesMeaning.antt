use Rattle.std.specs.Prelude.{◌≡◌, ℕ, ◌⊎◌, List, Ok, IsErr}
use Rattle.ats_network.specs.Network.{DeclaredNetwork, IsNetwork}
use Rattle.ats_trace.specs.Releases.{AreReleases, HaveFewPorts}
use Rattle.ats_pcap.specs.declared.record.Record.{Record}
use Rattle.ats_capture.specs.Traffic.{Traffic}
use Rattle.ats_schedule.specs.Text.{schedule_text}
use Rattle.ats_command_input.specs.Input.{network_in, releases_in}
use Rattle.ats_command_input.specs.Station.{station_in}
use Rattle.ats_command_due.specs.Due.{releases_answer}
use Rattle.ats_command_law.specs.CaptureMeaning.{HasNoStation, HasNoTraffic, IsCounted}
use Rattle.ats_command_input.specs.declared.status.Status.{Status}
use Rattle.ats_command_input.specs.declared.status.Status.TheVariants.{Done, Input, Refused}

-- two files of these bytes declare this network and these records, captured at the station with this name, which come
-- to this traffic. Its releases may be run on the network, and their frames have few ports; the text is their schedule,
-- and as that of a file under any name it declares just these over the network
pub record AreReleased (net station file net_bytes file_bytes text : List ℕ) (network : DeclaredNetwork) (place : ℕ)
    (records : List Record) (traffic : Traffic) : Type 0 where
  pub network_declared : network_in net net_bytes ≡ Ok network
  pub named : station_in network.topology station ≡ Ok place
  pub captured : IsCounted file file_bytes network place traffic records
  pub rules : IsNetwork network
  pub may_be_run : AreReleases network traffic.releases
  pub few_ports : HaveFewPorts network traffic.releases
  pub written : text ≡ schedule_text network traffic.releases
  pub reads_back : (schedule : List ℕ) → releases_in network schedule text ≡ Ok traffic.releases

-- what an answer to `releases NET STATION FILE` says of the bytes of both files, by its text and status; four statuses
-- never come
abbrev pub ReleasesSay : List ℕ → List ℕ → List ℕ → List ℕ → List ℕ → List ℕ → Status → Type 0
ReleasesSay net station file net_bytes file_bytes text Done =
    (network : DeclaredNetwork) × (place : ℕ) × (records : List Record) × (traffic : Traffic)
    × AreReleased net station file net_bytes file_bytes text network place records traffic
ReleasesSay net station file net_bytes file_bytes text Refused =
    (network : DeclaredNetwork) × HasNoStation net station net_bytes text network
ReleasesSay net station file net_bytes file_bytes text Input =
    IsErr (network_in net net_bytes)
    ⊎ ((network : DeclaredNetwork) × (place : ℕ)
    × HasNoTraffic net station file net_bytes file_bytes network place)
ReleasesSay net station file net_bytes file_bytes text status = ⊥

-- so for all words and bytes
abbrev pub ReleasesMean : Type 0
ReleasesMean = (net station file net_bytes file_bytes : List ℕ)
    → ReleasesSay net station file net_bytes file_bytes
    (releases_answer net station file net_bytes file_bytes).text
    (releases_answer net station file net_bytes file_bytes).status
