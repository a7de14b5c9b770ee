use Rattle.std.specs.Prelude.{◌≡◌, ◌↔◌, ℕ, List, ◌++◌, Some, None, Ok, Err}
use Rattle.std.specs.List.{AllZip, range_with_len}
use Rattle.ats_network.specs.Network.{DeclaredNetwork}
use Rattle.ats_network.specs.Senders.{sender_at}
use Rattle.ats_certificate.specs.declared.row.Row.{Row}
use Rattle.ats_tally.specs.declared.reason.Reason.{Reason}
use Rattle.ats_bound.specs.Reason.{reason_of}
use Rattle.ats_checker.specs.Refusal.{refusal_of}
use Rattle.ats_checker.specs.declared.refusal.Refusal.{Refusal}
use Rattle.ats_buffer.specs.Buffer.{buffers_of}
use Rattle.ats_buffer.specs.Occupancy.{ArePeaks}
use Rattle.ats_buffer_text.specs.Text.{buffers_text}
use Rattle.ats_trace.specs.Journey.{Travel}
use Rattle.ats_trace.specs.Run.{IsRunBy, releases_of}
use Rattle.ats_trace.specs.Ways.{listener_count}
use Rattle.ats_trace.specs.declared.journey.Release.{Release}
use Rattle.ats_capture.specs.Counts.{counts_text}
use Rattle.ats_capture.specs.Traffic.{Traffic}
use Rattle.ats_port_capture.specs.Capture.{IsCapture}
use Rattle.ats_gen.specs.Made.{AreMade, gen_fault}
use Rattle.ats_gen.specs.declared.fault.GenFault.{GenFault}
use Rattle.ats_replay.specs.Departures.{departures_text}
use Rattle.ats_replay.specs.Report.{report_text}
use Rattle.ats_verdict_text.specs.Text.{reason_text, refusal_text}
use Rattle.ats_witness.specs.Found.{AreFound, FoundDelays}
use Rattle.ats_witness_text.specs.Text.{witness_text}
use Rattle.ats_command_input.specs.Answer.{Answer}
use Rattle.ats_command_input.specs.Input.{network_in, releases_in, rows_in, traffic_in}
use Rattle.ats_command_input.specs.Order.{key_of, wait_of}
use Rattle.ats_command_input.specs.Port.{port_in}
use Rattle.ats_command_input.specs.Station.{station_in}
use Rattle.ats_command_input.specs.Stream.{stream_in}
use Rattle.ats_command_input.specs.declared.order.Order.{Order}
use Rattle.ats_command_input.specs.declared.order.Order.TheVariants.{Early}
use Rattle.ats_command_input.specs.declared.status.Status.TheVariants.{Done}
use Rattle.ats_command_due.specs.Due.{IsCaptureAnswer, IsGenerateAnswer, IsPeaksAnswer, IsRecordAnswer, IsReplayAnswer}
use Rattle.ats_command_due.specs.Due.{IsWitnessAnswer}
use Rattle.ats_command_due.specs.Generated.{gen_fault_text, least_sums}
use Rattle.ats_command_due.specs.Witnessed.{least_sum}
use Rattle.ats_plain_answer_law.specs.Lines.{refused_for}

-- Which answers there are to each command that runs frames, case by case. What is not taken has its own line, and the
-- command has no other answer; nor has it one where it is refused; else it is done with the text of some run, of which
-- there may be several.

-- a run by the key and the wait of an order, with exactly these releases
abbrev pub RunsExactly : Order → DeclaredNetwork → List Release → List Travel → Type 0
RunsExactly order network releases run =
    IsRunBy (key_of order) (wait_of order) network run × (releases_of run ≡ releases)

-- `replay NET SCHEDULE ORDER`: the journeys of a run in this order
pub record ReplayIsAnswered : Type 0 where
  pub not_taken : (net schedule net_bytes schedule_bytes : List ℕ) (order : Order) (answer due : Answer)
      → network_in net net_bytes ≡ Err due
      → IsReplayAnswer net schedule order net_bytes schedule_bytes answer ↔ (answer ≡ due)
  pub no_releases : (net schedule net_bytes schedule_bytes : List ℕ) (order : Order) (network : DeclaredNetwork)
      (answer due : Answer) → network_in net net_bytes ≡ Ok network
      → releases_in network schedule schedule_bytes ≡ Err due
      → IsReplayAnswer net schedule order net_bytes schedule_bytes answer ↔ (answer ≡ due)
  pub done : (net schedule net_bytes schedule_bytes : List ℕ) (order : Order) (network : DeclaredNetwork)
      (releases : List Release) (answer : Answer) → network_in net net_bytes ≡ Ok network
      → releases_in network schedule schedule_bytes ≡ Ok releases
      → IsReplayAnswer net schedule order net_bytes schedule_bytes answer
      ↔ ((run : List Travel) × (answer.status ≡ Done) × RunsExactly order network releases run
      × (answer.text ≡ departures_text network run))

-- `capture NET STATION FILE ORDER`: the same of what the station sent by the capture, and then the counts of its
-- records
pub record CaptureIsAnswered : Type 0 where
  pub not_taken : (net station file net_bytes file_bytes : List ℕ) (order : Order) (answer due : Answer)
      → network_in net net_bytes ≡ Err due
      → IsCaptureAnswer net station file order net_bytes file_bytes answer ↔ (answer ≡ due)
  pub no_station : (net station file net_bytes file_bytes : List ℕ) (order : Order) (network : DeclaredNetwork)
      (answer due : Answer) → network_in net net_bytes ≡ Ok network → station_in network.topology station ≡ Err due
      → IsCaptureAnswer net station file order net_bytes file_bytes answer ↔ (answer ≡ due)
  pub no_traffic : (net station file net_bytes file_bytes : List ℕ) (order : Order) (network : DeclaredNetwork)
      (place : ℕ) (answer due : Answer) → network_in net net_bytes ≡ Ok network
      → station_in network.topology station ≡ Ok place → traffic_in network place file file_bytes ≡ Err due
      → IsCaptureAnswer net station file order net_bytes file_bytes answer ↔ (answer ≡ due)
  pub done : (net station file net_bytes file_bytes : List ℕ) (order : Order) (network : DeclaredNetwork)
      (place : ℕ) (traffic : Traffic) (answer : Answer) → network_in net net_bytes ≡ Ok network
      → station_in network.topology station ≡ Ok place → traffic_in network place file file_bytes ≡ Ok traffic
      → IsCaptureAnswer net station file order net_bytes file_bytes answer
      ↔ ((run : List Travel) × (answer.status ≡ Done) × RunsExactly order network traffic.releases run
      × (answer.text ≡ departures_text network run ++ counts_text traffic))

-- `record NET SCHEDULE ORDER PORT`: the capture of the port in a run in this order
pub record RecordIsAnswered : Type 0 where
  pub not_taken : (net schedule port net_bytes schedule_bytes : List ℕ) (order : Order) (answer due : Answer)
      → network_in net net_bytes ≡ Err due
      → IsRecordAnswer net schedule order port net_bytes schedule_bytes answer ↔ (answer ≡ due)
  pub no_port : (net schedule port net_bytes schedule_bytes : List ℕ) (order : Order) (network : DeclaredNetwork)
      (answer due : Answer) → network_in net net_bytes ≡ Ok network → port_in network.topology port ≡ Err due
      → IsRecordAnswer net schedule order port net_bytes schedule_bytes answer ↔ (answer ≡ due)
  pub no_releases : (net schedule port net_bytes schedule_bytes : List ℕ) (order : Order) (network : DeclaredNetwork)
      (place : ℕ) (answer due : Answer) → network_in net net_bytes ≡ Ok network
      → port_in network.topology port ≡ Ok place → releases_in network schedule schedule_bytes ≡ Err due
      → IsRecordAnswer net schedule order port net_bytes schedule_bytes answer ↔ (answer ≡ due)
  pub done : (net schedule port net_bytes schedule_bytes : List ℕ) (order : Order) (network : DeclaredNetwork)
      (place : ℕ) (releases : List Release) (answer : Answer) → network_in net net_bytes ≡ Ok network
      → port_in network.topology port ≡ Ok place → releases_in network schedule schedule_bytes ≡ Ok releases
      → IsRecordAnswer net schedule order port net_bytes schedule_bytes answer
      ↔ ((run : List Travel) × (answer.status ≡ Done) × RunsExactly order network releases run
      × IsCapture network run place answer.text)

-- `buffers NET CERT SCHEDULE ORDER`: each row's buffer beside its peak in a run in this order. All three files are
-- taken before the rows are judged
pub record PeaksAreAnswered : Type 0 where
  pub not_taken : (net certificate schedule net_bytes certificate_bytes schedule_bytes : List ℕ) (order : Order)
      (answer due : Answer) → network_in net net_bytes ≡ Err due
      → IsPeaksAnswer net certificate schedule order net_bytes certificate_bytes schedule_bytes answer
      ↔ (answer ≡ due)
  pub no_rows : (net certificate schedule net_bytes certificate_bytes schedule_bytes : List ℕ) (order : Order)
      (network : DeclaredNetwork) (answer due : Answer) → network_in net net_bytes ≡ Ok network
      → rows_in network.topology certificate certificate_bytes ≡ Err due
      → IsPeaksAnswer net certificate schedule order net_bytes certificate_bytes schedule_bytes answer
      ↔ (answer ≡ due)
  pub no_releases : (net certificate schedule net_bytes certificate_bytes schedule_bytes : List ℕ) (order : Order)
      (network : DeclaredNetwork) (rows : List Row) (answer due : Answer) → network_in net net_bytes ≡ Ok network
      → rows_in network.topology certificate certificate_bytes ≡ Ok rows
      → releases_in network schedule schedule_bytes ≡ Err due
      → IsPeaksAnswer net certificate schedule order net_bytes certificate_bytes schedule_bytes answer
      ↔ (answer ≡ due)
  pub refused : (net certificate schedule net_bytes certificate_bytes schedule_bytes : List ℕ) (order : Order)
      (network : DeclaredNetwork) (rows : List Row) (releases : List Release) (refusal : Refusal) (answer : Answer)
      → network_in net net_bytes ≡ Ok network
      → rows_in network.topology certificate certificate_bytes ≡ Ok rows
      → releases_in network schedule schedule_bytes ≡ Ok releases → refusal_of network rows ≡ Some refusal
      → IsPeaksAnswer net certificate schedule order net_bytes certificate_bytes schedule_bytes answer
      ↔ (answer ≡ refused_for (refusal_text network.topology refusal))
  pub done : (net certificate schedule net_bytes certificate_bytes schedule_bytes : List ℕ) (order : Order)
      (network : DeclaredNetwork) (rows : List Row) (releases : List Release) (answer : Answer)
      → network_in net net_bytes ≡ Ok network
      → rows_in network.topology certificate certificate_bytes ≡ Ok rows
      → releases_in network schedule schedule_bytes ≡ Ok releases → refusal_of network rows ≡ None
      → IsPeaksAnswer net certificate schedule order net_bytes certificate_bytes schedule_bytes answer
      ↔ ((run : List Travel) × (peaks : List ℕ) × (answer.status ≡ Done) × RunsExactly order network releases run
      × ArePeaks network run rows peaks
      × (answer.text ≡ buffers_text network.topology rows (buffers_of network rows) (Some peaks)))

-- `generate NET SEED COUNT`: what came of each sender's frames in a run of the made releases in the order `early`,
-- beside the least sums, or why none are made
pub record GenerateIsAnswered : Type 0 where
  pub not_taken : (net bytes : List ℕ) (seed count : ℕ) (answer due : Answer) → network_in net bytes ≡ Err due
      → IsGenerateAnswer net seed count bytes answer ↔ (answer ≡ due)
  pub refused : (net bytes : List ℕ) (seed count : ℕ) (network : DeclaredNetwork) (fault : GenFault) (answer : Answer)
      → network_in net bytes ≡ Ok network → gen_fault network seed count ≡ Some fault
      → IsGenerateAnswer net seed count bytes answer ↔ (answer ≡ refused_for (gen_fault_text fault))
  pub done : (net bytes : List ℕ) (seed count : ℕ) (network : DeclaredNetwork) (answer : Answer)
      → network_in net bytes ≡ Ok network → gen_fault network seed count ≡ None
      → IsGenerateAnswer net seed count bytes answer
      ↔ ((releases : List Release) × (run : List Travel) × (answer.status ≡ Done)
      × AreMade network seed count releases × RunsExactly Early network releases run
      × (answer.text ≡ report_text network run (least_sums network)))

-- `witness NET NAME`: for each listener of the stream what is found of it, beside its least sum. The stream is looked
-- up before the network is judged
pub record WitnessIsAnswered : Type 0 where
  pub not_taken : (net name bytes : List ℕ) (answer due : Answer) → network_in net bytes ≡ Err due
      → IsWitnessAnswer net name bytes answer ↔ (answer ≡ due)
  pub no_stream : (net name bytes : List ℕ) (network : DeclaredNetwork) (answer due : Answer)
      → network_in net bytes ≡ Ok network → stream_in network.streams name ≡ Err due
      → IsWitnessAnswer net name bytes answer ↔ (answer ≡ due)
  pub refused : (net name bytes : List ℕ) (network : DeclaredNetwork) (stream : ℕ) (reason : Reason) (answer : Answer)
      → network_in net bytes ≡ Ok network → stream_in network.streams name ≡ Ok stream
      → reason_of network ≡ Some reason
      → IsWitnessAnswer net name bytes answer ↔ (answer ≡ refused_for (reason_text network.topology reason))
  pub done : (net name bytes : List ℕ) (network : DeclaredNetwork) (stream : ℕ) (answer : Answer)
      → network_in net bytes ≡ Ok network → stream_in network.streams name ≡ Ok stream → reason_of network ≡ None
      → IsWitnessAnswer net name bytes answer
      ↔ ((founds : List FoundDelays) × (answer.status ≡ Done)
      × AllZip (AreFound network stream) (range_with_len 0 (listener_count (sender_at network stream))) founds
      × (answer.text ≡ witness_text network stream founds (least_sum network stream)))

pub record RunsAreAnswered : Type 0 where
  pub replay : ReplayIsAnswered
  pub capture : CaptureIsAnswered
  pub of_port : RecordIsAnswered
  pub peaks : PeaksAreAnswered
  pub generate : GenerateIsAnswered
  pub witness : WitnessIsAnswered
