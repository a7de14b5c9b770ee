use Rattle.std.specs.List.{AllZip, range_with_len}
use Rattle.std.specs.Prelude.{◌≡◌, ◌↔◌, ◌⊎◌, ◌++◌, All, IsErr, List, None, Ok, Some, codes, length, map, ℕ}
use Rattle.ats_network.specs.Network.{DeclaredNetwork, IsNetwork}
use Rattle.ats_network.specs.Senders.{sender_at}
use Rattle.ats_trace.specs.Journey.{Travel}
use Rattle.ats_trace.specs.Releases.{AreReleases, HaveFewPorts}
use Rattle.ats_trace.specs.Ways.{listener_count}
use Rattle.ats_trace.specs.declared.journey.Release.{Release}
use Rattle.ats_conform.specs.Broken.{Breaks}
use Rattle.ats_conform.specs.Releases.{AllKeepBuckets}
use Rattle.ats_conform.specs.declared.broken.Broken.{Broken}
use Rattle.ats_fit.specs.Measured.{AreMeasured}
use Rattle.ats_fit.specs.Over.{senders_over}
use Rattle.ats_fit.specs.declared.measured.Measured.{Measured}
use Rattle.ats_gen.specs.Made.{AreMade, gen_fault}
use Rattle.ats_gen.specs.declared.fault.GenFault.{GenFault}
use Rattle.ats_certificate.specs.Certificate.{Holds}
use Rattle.ats_tally.specs.declared.reason.Reason.{Reason}
use Rattle.ats_bound.specs.Least.{least_certificate}
use Rattle.ats_witness.specs.Found.{FoundDelays, IsWithinBound}
use Rattle.ats_witness_law.specs.Laws.{CanHappen}
use Rattle.ats_schedule.specs.Text.{schedule_text}
use Rattle.ats_verdict_text.specs.Text.{refused_text}
use Rattle.ats_fit_text.specs.Text.{fit_text}
use Rattle.ats_pcap.specs.declared.record.Record.{Record}
use Rattle.ats_capture.specs.Traffic.{Traffic}
use Rattle.ats_capture_law.specs.Counted.{counted, first_over}
use Rattle.ats_port_capture_law.specs.Laws.{ReadsAs, found_of}
use Rattle.ats_command_input.specs.Input.{network_in, records_in, releases_in, traffic_in}
use Rattle.ats_command_input.specs.Port.{port_in}
use Rattle.ats_command_input.specs.Station.{station_in}
use Rattle.ats_command_input.specs.Stream.{stream_in}
use Rattle.ats_command_input.specs.declared.order.Order.{Order}
use Rattle.ats_command_input.specs.declared.status.Status.TheVariants as status
use Rattle.ats_command_due.specs.Captured.{IsCaptureReplay}
use Rattle.ats_command_due.specs.Conformed.{broken_text, conforms_text}
use Rattle.ats_command_due.specs.Generated.{IsReport, gen_fault_text}
use Rattle.ats_command_due.specs.Recorded.{IsRecordedRun}
use Rattle.ats_command_due.specs.Replayed.{IsReplay}
use Rattle.ats_command_due.specs.Witnessed.{IsWitnessOf}
use Rattle.ats_command_law.specs.CaptureMeaning.{CaptureSays, IsCounted}
use Rattle.ats_command_law.specs.ConformMeaning.{ConformSays}
use Rattle.ats_command_law.specs.FitMeaning.{FitSays, StreamsHaveBursts}
use Rattle.ats_command_law.specs.GenerateMeaning.{AreWithinLeast, EachWorstIsWithin, GenerateSays}
use Rattle.ats_command_law.specs.Meaning.{HasNone}
use Rattle.ats_command_law.specs.RecordMeaning.{RecordSays}
use Rattle.ats_command_law.specs.ReleasesMeaning.{ReleasesSay}
use Rattle.ats_command_law.specs.ReplayMeaning.{ReplaySays}
use Rattle.ats_command_law.specs.WitnessMeaning.{IsShownFor, WitnessSays}
use Rattle.ats_answer_law.specs.Never.{NeverCome}

-- What an answer to each command that runs frames, makes them or judges a schedule says, by its status and both ways:
-- each part is written out, and there are no others.

-- an answer to `replay`, by its status
pub record ReplayIsMeant : Type 0 where
  pub done : (net schedule net_bytes schedule_bytes : List ℕ) (order : Order) (text : List ℕ)
      → ReplaySays net schedule net_bytes schedule_bytes order text status.Done
      ↔ ((network : DeclaredNetwork) × (releases : List Release) × (run : List Travel)
      × (network_in net net_bytes ≡ Ok network) × (releases_in network schedule schedule_bytes ≡ Ok releases)
      × IsNetwork network × IsReplay order network releases text run)
  pub input : (net schedule net_bytes schedule_bytes : List ℕ) (order : Order) (text : List ℕ)
      → ReplaySays net schedule net_bytes schedule_bytes order text status.Input
      ↔ (IsErr (network_in net net_bytes)
      ⊎ ((network : DeclaredNetwork) × (network_in net net_bytes ≡ Ok network)
      × IsErr (releases_in network schedule schedule_bytes)))
  pub not_refused : (net schedule net_bytes schedule_bytes : List ℕ) (order : Order) (text : List ℕ)
      → ¬ ReplaySays net schedule net_bytes schedule_bytes order text status.Refused
  pub never : (net schedule net_bytes schedule_bytes : List ℕ) (order : Order) (text : List ℕ)
      → NeverCome (ReplaySays net schedule net_bytes schedule_bytes order text)

-- to `capture`
pub record CaptureIsMeant : Type 0 where
  pub done : (net station file net_bytes file_bytes : List ℕ) (order : Order) (text : List ℕ)
      → CaptureSays net station file net_bytes file_bytes order text status.Done
      ↔ ((network : DeclaredNetwork) × (place : ℕ) × (records : List Record) × (traffic : Traffic)
      × (run : List Travel) × (network_in net net_bytes ≡ Ok network)
      × (station_in network.topology station ≡ Ok place) × IsCounted file file_bytes network place traffic records
      × IsNetwork network × IsCaptureReplay order network traffic text run)
  pub input : (net station file net_bytes file_bytes : List ℕ) (order : Order) (text : List ℕ)
      → CaptureSays net station file net_bytes file_bytes order text status.Input
      ↔ (IsErr (network_in net net_bytes)
      ⊎ ((network : DeclaredNetwork) × (place : ℕ) × (network_in net net_bytes ≡ Ok network)
      × (station_in network.topology station ≡ Ok place) × IsErr (traffic_in network place file file_bytes)))
  pub refused : (net station file net_bytes file_bytes : List ℕ) (order : Order) (text : List ℕ)
      → CaptureSays net station file net_bytes file_bytes order text status.Refused
      ↔ ((network : DeclaredNetwork) × (network_in net net_bytes ≡ Ok network)
      × IsErr (station_in network.topology station) × (text ≡ codes "refused station " ++ station ++ codes "\n"))
  pub never : (net station file net_bytes file_bytes : List ℕ) (order : Order) (text : List ℕ)
      → NeverCome (CaptureSays net station file net_bytes file_bytes order text)

-- to `record`
pub record RecordIsMeant : Type 0 where
  pub done : (net schedule port net_bytes schedule_bytes : List ℕ) (order : Order) (text : List ℕ)
      → RecordSays net schedule port net_bytes schedule_bytes order text status.Done
      ↔ ((network : DeclaredNetwork) × (place : ℕ) × (releases : List Release) × (run : List Travel)
      × (network_in net net_bytes ≡ Ok network) × (port_in network.topology port ≡ Ok place)
      × (releases_in network schedule schedule_bytes ≡ Ok releases) × IsNetwork network
      × (recorded : IsRecordedRun order network place releases text run)
      × ReadsAs text (map (found_of network run) recorded.capture.sent))
  pub input : (net schedule port net_bytes schedule_bytes : List ℕ) (order : Order) (text : List ℕ)
      → RecordSays net schedule port net_bytes schedule_bytes order text status.Input
      ↔ (IsErr (network_in net net_bytes)
      ⊎ ((network : DeclaredNetwork) × (place : ℕ) × (network_in net net_bytes ≡ Ok network)
      × (port_in network.topology port ≡ Ok place) × IsErr (releases_in network schedule schedule_bytes)))
  pub refused : (net schedule port net_bytes schedule_bytes : List ℕ) (order : Order) (text : List ℕ)
      → RecordSays net schedule port net_bytes schedule_bytes order text status.Refused
      ↔ ((network : DeclaredNetwork) × (network_in net net_bytes ≡ Ok network)
      × IsErr (port_in network.topology port) × (text ≡ codes "refused port " ++ port ++ codes "\n"))
  pub never : (net schedule port net_bytes schedule_bytes : List ℕ) (order : Order) (text : List ℕ)
      → NeverCome (RecordSays net schedule port net_bytes schedule_bytes order text)

-- to `releases`
pub record ReleasesAreMeant : Type 0 where
  pub done : (net station file net_bytes file_bytes text : List ℕ)
      → ReleasesSay net station file net_bytes file_bytes text status.Done
      ↔ ((network : DeclaredNetwork) × (place : ℕ) × (records : List Record) × (traffic : Traffic)
      × (network_in net net_bytes ≡ Ok network) × (station_in network.topology station ≡ Ok place)
      × IsCounted file file_bytes network place traffic records × IsNetwork network
      × AreReleases network traffic.releases × HaveFewPorts network traffic.releases
      × (text ≡ schedule_text network traffic.releases)
      × ((schedule : List ℕ) → releases_in network schedule text ≡ Ok traffic.releases))
  pub input : (net station file net_bytes file_bytes text : List ℕ)
      → ReleasesSay net station file net_bytes file_bytes text status.Input
      ↔ (IsErr (network_in net net_bytes)
      ⊎ ((network : DeclaredNetwork) × (place : ℕ) × (network_in net net_bytes ≡ Ok network)
      × (station_in network.topology station ≡ Ok place) × IsErr (traffic_in network place file file_bytes)))
  pub refused : (net station file net_bytes file_bytes text : List ℕ)
      → ReleasesSay net station file net_bytes file_bytes text status.Refused
      ↔ ((network : DeclaredNetwork) × (network_in net net_bytes ≡ Ok network)
      × IsErr (station_in network.topology station) × (text ≡ codes "refused station " ++ station ++ codes "\n"))
  pub never : (net station file net_bytes file_bytes text : List ℕ)
      → NeverCome (ReleasesSay net station file net_bytes file_bytes text)

-- to `generate`
pub record GenerateIsMeant : Type 0 where
  pub done : (net bytes : List ℕ) (seed count : ℕ) (text : List ℕ)
      → GenerateSays net bytes seed count text status.Done
      ↔ ((network : DeclaredNetwork) × (releases : List Release) × (run : List Travel)
      × (network_in net bytes ≡ Ok network) × IsNetwork network × AreMade network seed count releases
      × AllKeepBuckets network releases × IsReport network releases text run × AreWithinLeast network run
      × EachWorstIsWithin network run)
  pub input : (net bytes : List ℕ) (seed count : ℕ) (text : List ℕ)
      → GenerateSays net bytes seed count text status.Input
      ↔ IsErr (network_in net bytes)
  pub refused : (net bytes : List ℕ) (seed count : ℕ) (text : List ℕ)
      → GenerateSays net bytes seed count text status.Refused
      ↔ ((network : DeclaredNetwork) × (fault : GenFault) × (network_in net bytes ≡ Ok network) × IsNetwork network
      × (gen_fault network seed count ≡ Some fault) × (text ≡ refused_text (gen_fault_text fault)))
  pub never : (net bytes : List ℕ) (seed count : ℕ) (text : List ℕ)
      → NeverCome (GenerateSays net bytes seed count text)

-- to `witness`
pub record WitnessIsMeant : Type 0 where
  pub done : (net name bytes text : List ℕ)
      → WitnessSays net name bytes text status.Done
      ↔ ((network : DeclaredNetwork) × (stream : ℕ) × (founds : List FoundDelays)
      × (network_in net bytes ≡ Ok network) × (stream_in network.streams name ≡ Ok stream) × IsNetwork network
      × Holds network (least_certificate network) × IsWitnessOf network stream text founds
      × AllZip (IsShownFor network stream) (range_with_len 0 (listener_count (sender_at network stream))) founds)
  pub input : (net name bytes text : List ℕ)
      → WitnessSays net name bytes text status.Input
      ↔ IsErr (network_in net bytes)
  pub refused : (net name bytes text : List ℕ)
      → WitnessSays net name bytes text status.Refused
      ↔ (((network : DeclaredNetwork) × (network_in net bytes ≡ Ok network) × IsErr (stream_in network.streams name)
      × (text ≡ codes "refused stream " ++ name ++ codes "\n"))
      ⊎ ((network : DeclaredNetwork) × (stream : ℕ) × (reason : Reason)
      × (stream_in network.streams name ≡ Ok stream) × HasNone net bytes text network reason))
  pub never : (net name bytes text : List ℕ)
      → NeverCome (WitnessSays net name bytes text)

-- to `conform`
pub record ConformIsMeant : Type 0 where
  pub done : (net schedule net_bytes schedule_bytes text : List ℕ)
      → ConformSays net schedule net_bytes schedule_bytes text status.Done
      ↔ ((network : DeclaredNetwork) × (releases : List Release) × (network_in net net_bytes ≡ Ok network)
      × (releases_in network schedule schedule_bytes ≡ Ok releases) × IsNetwork network
      × AllKeepBuckets network releases × (text ≡ conforms_text (length releases)))
  pub input : (net schedule net_bytes schedule_bytes text : List ℕ)
      → ConformSays net schedule net_bytes schedule_bytes text status.Input
      ↔ (IsErr (network_in net net_bytes)
      ⊎ ((network : DeclaredNetwork) × (network_in net net_bytes ≡ Ok network)
      × IsErr (releases_in network schedule schedule_bytes)))
  pub refused : (net schedule net_bytes schedule_bytes text : List ℕ)
      → ConformSays net schedule net_bytes schedule_bytes text status.Refused
      ↔ ((network : DeclaredNetwork) × (releases : List Release) × (broken : Broken)
      × (network_in net net_bytes ≡ Ok network) × (releases_in network schedule schedule_bytes ≡ Ok releases)
      × IsNetwork network × Breaks network releases broken × (¬ AllKeepBuckets network releases)
      × (text ≡ refused_text (broken_text broken)))
  pub never : (net schedule net_bytes schedule_bytes text : List ℕ)
      → NeverCome (ConformSays net schedule net_bytes schedule_bytes text)

-- to `fit`
pub record FitIsMeant : Type 0 where
  pub done : (net schedule net_bytes schedule_bytes text : List ℕ)
      → FitSays net schedule net_bytes schedule_bytes text status.Done
      ↔ ((network : DeclaredNetwork) × (releases : List Release) × (measured : List Measured)
      × (network_in net net_bytes ≡ Ok network) × (releases_in network schedule schedule_bytes ≡ Ok releases)
      × IsNetwork network × AreMeasured network releases measured × StreamsHaveBursts network releases measured
      × ((senders_over network measured ≡ 0) ↔ AllKeepBuckets network releases)
      × (text ≡ fit_text network releases measured))
  pub input : (net schedule net_bytes schedule_bytes text : List ℕ)
      → FitSays net schedule net_bytes schedule_bytes text status.Input
      ↔ (IsErr (network_in net net_bytes)
      ⊎ ((network : DeclaredNetwork) × (network_in net net_bytes ≡ Ok network)
      × IsErr (releases_in network schedule schedule_bytes)))
  pub not_refused : (net schedule net_bytes schedule_bytes text : List ℕ)
      → ¬ FitSays net schedule net_bytes schedule_bytes text status.Refused
  pub never : (net schedule net_bytes schedule_bytes text : List ℕ)
      → NeverCome (FitSays net schedule net_bytes schedule_bytes text)

-- what these words come to: the records of a capture, and what is found for a listener
pub record RunWordsAreMeant : Type 0 where
  pub counted : (file bytes : List ℕ) (network : DeclaredNetwork) (place : ℕ) (traffic : Traffic)
      (records : List Record)
      → IsCounted file bytes network place traffic records
      ↔ ((records_in file bytes ≡ Ok records) × (first_over network place records ≡ None)
      × (traffic ≡ counted network place records))
  pub shown : (network : DeclaredNetwork) (stream listener : ℕ) (found : FoundDelays)
      → IsShownFor network stream listener found
      ↔ (All (CanHappen network stream listener) found.delays
      × All (IsWithinBound network stream listener) found.delays × AllKeepBuckets network found.releases)

-- of all of these
pub record RunAnswersAreMeant : Type 0 where
  pub replay : ReplayIsMeant
  pub capture : CaptureIsMeant
  pub port_record : RecordIsMeant
  pub releases : ReleasesAreMeant
  pub generate : GenerateIsMeant
  pub witness : WitnessIsMeant
  pub conform : ConformIsMeant
  pub fit : FitIsMeant
  pub run_words : RunWordsAreMeant
