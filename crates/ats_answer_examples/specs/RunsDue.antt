use Rattle.std.specs.Prelude.{◌≡◌, ℕ, List, Option, Some, None, Ok}
use Rattle.ats_network.specs.Network.{DeclaredNetwork}
use Rattle.ats_bound.specs.Reason.{reason_of}
use Rattle.ats_certificate.specs.declared.row.Row.{Row}
use Rattle.ats_trace.specs.Journey.{Travel}
use Rattle.ats_trace.specs.declared.journey.Release.{Release}
use Rattle.ats_capture.specs.Traffic.{Traffic}
use Rattle.ats_checker.specs.Refusal.{refusal_of}
use Rattle.ats_gen.specs.Made.{AreMade, gen_fault}
use Rattle.ats_witness.specs.Found.{FoundDelays}
use Rattle.ats_command_input.specs.Answer.{Answer}
use Rattle.ats_command_input.specs.Command.{Capture, Generate, Peaks, Record, Replay, Witness}
use Rattle.ats_command_input.specs.Input.{network_in, releases_in, rows_in, traffic_in}
use Rattle.ats_command_input.specs.Port.{port_in}
use Rattle.ats_command_input.specs.Station.{station_in}
use Rattle.ats_command_input.specs.Stream.{stream_in}
use Rattle.ats_command_input.specs.declared.order.Order.{Order}
use Rattle.ats_command_input.specs.declared.status.Status.TheVariants.{Done}
use Rattle.ats_command_due.specs.Captured.{IsCaptureReplay}
use Rattle.ats_command_due.specs.Due.{IsDueAnswer}
use Rattle.ats_command_due.specs.Generated.{IsReport}
use Rattle.ats_command_due.specs.Held.{IsHeldRun, held}
use Rattle.ats_command_due.specs.Recorded.{IsRecordedRun}
use Rattle.ats_command_due.specs.Replayed.{IsReplay}
use Rattle.ats_command_due.specs.Witnessed.{IsWitnessOf}

-- The text of each run that is one is due, whichever it is, to the commands to which several may be. Refuses due texts
-- of one run alone, and those of runs by which talkers keep their buckets alone.

-- the bytes that are told under each name, where any are
abbrev pub Told : Type 0
Told = List ℕ → Option (List ℕ)

-- with this text a command is done
abbrev pub done_with : List ℕ → Answer
done_with text = record { status = Done; text = text }

pub record RunsAreDue : Type 0 where
  pub replay : (told : Told) (net schedule net_bytes bytes text : List ℕ) (order : Order) (network : DeclaredNetwork)
      (releases : List Release) (run : List Travel)
      → told net ≡ Some net_bytes → told schedule ≡ Some bytes → network_in net net_bytes ≡ Ok network
      → releases_in network schedule bytes ≡ Ok releases → IsReplay order network releases text run
      → IsDueAnswer told (Replay net schedule order) (done_with text)
  pub capture : (told : Told) (net station file net_bytes bytes text : List ℕ) (order : Order)
      (network : DeclaredNetwork) (place : ℕ) (traffic : Traffic) (run : List Travel)
      → told net ≡ Some net_bytes → told file ≡ Some bytes → network_in net net_bytes ≡ Ok network
      → station_in network.topology station ≡ Ok place → traffic_in network place file bytes ≡ Ok traffic
      → IsCaptureReplay order network traffic text run
      → IsDueAnswer told (Capture net station file order) (done_with text)
  pub generate : (told : Told) (net bytes text : List ℕ) (seed count : ℕ) (network : DeclaredNetwork)
      (releases : List Release) (run : List Travel)
      → told net ≡ Some bytes → network_in net bytes ≡ Ok network → gen_fault network seed count ≡ None
      → AreMade network seed count releases → IsReport network releases text run
      → IsDueAnswer told (Generate net seed count) (done_with text)
  pub peaks : (told : Told) (net certificate schedule net_bytes row_bytes bytes text : List ℕ) (order : Order)
      (network : DeclaredNetwork) (rows : List Row) (releases : List Release) (run : List Travel) (peaks : List ℕ)
      → told net ≡ Some net_bytes → told certificate ≡ Some row_bytes → told schedule ≡ Some bytes
      → network_in net net_bytes ≡ Ok network → rows_in network.topology certificate row_bytes ≡ Ok rows
      → releases_in network schedule bytes ≡ Ok releases → refusal_of network rows ≡ None
      → IsHeldRun order (held network rows releases) text run peaks
      → IsDueAnswer told (Peaks net certificate schedule order) (done_with text)
  pub port_record : (told : Told) (net schedule port net_bytes bytes text : List ℕ) (order : Order)
      (network : DeclaredNetwork) (place : ℕ) (releases : List Release) (run : List Travel)
      → told net ≡ Some net_bytes → told schedule ≡ Some bytes → network_in net net_bytes ≡ Ok network
      → port_in network.topology port ≡ Ok place → releases_in network schedule bytes ≡ Ok releases
      → IsRecordedRun order network place releases text run
      → IsDueAnswer told (Record net schedule order port) (done_with text)
  pub witness : (told : Told) (net name bytes text : List ℕ) (network : DeclaredNetwork) (stream : ℕ)
      (founds : List FoundDelays)
      → told net ≡ Some bytes → network_in net bytes ≡ Ok network → stream_in network.streams name ≡ Ok stream
      → reason_of network ≡ None → IsWitnessOf network stream text founds
      → IsDueAnswer told (Witness net name) (done_with text)
