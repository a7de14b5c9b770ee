use Rattle.std.specs.Prelude.{◌≡◌, ◌↔◌, ◌⊎◌, ℕ, List, codes, Option, Some, Ok}
use Rattle.ats_io.specs.Outside.{Rose}
use Rattle.ats_network.specs.Network.{DeclaredNetwork}
use Rattle.ats_certificate.specs.declared.row.Row.{Row}
use Rattle.ats_command_input.specs.Answer.{Answer}
use Rattle.ats_command_input.specs.Command.{Admit, Bound, Buffers, Capture, Check, Conform, Explain, Fit, Generate}
use Rattle.ats_command_input.specs.Command.{LrqBound, LrqCheck, LrqShape, Peaks, Record, Releases, Replay, Settings}
use Rattle.ats_command_input.specs.Command.{Shape, Show, Unknown, Witness}
use Rattle.ats_command_input.specs.Input.{network_in, rows_in}
use Rattle.ats_command_input.specs.Port.{port_in}
use Rattle.ats_command_input.specs.Station.{station_in}
use Rattle.ats_command_input.specs.declared.order.Order.{Order}
use Rattle.ats_command_input.specs.declared.status.Status.TheVariants.{Words}
use Rattle.ats_command_due.specs.Calls.{ReadRose}
use Rattle.ats_command_due.specs.Due.{Declares, DeclaresPort, DeclaresRows, DeclaresStation, IsAnswer, IsCaptureAnswer}
use Rattle.ats_command_due.specs.Due.{IsConformAnswer, IsFitAnswer, IsGenerateAnswer, IsPeaksAnswer, IsRecordAnswer}
use Rattle.ats_command_due.specs.Due.{IsReplayAnswer, IsSettingsAnswer, IsWitnessAnswer, admit_answer, bound_answer}
use Rattle.ats_command_due.specs.Due.{buffers_answer, check_answer, explain_answer, lrq_bound_answer, lrq_check_answer}
use Rattle.ats_command_due.specs.Due.{lrq_shape_answer, releases_answer, shape_answer, show_answer}

-- the answer to each command is that which the bytes of the files make that its words name, each under its own name;
-- and to words that are no command it is the line `words`
pub record AnswersAreOfBytes : Type 0 where
  pub shape : (bytes : List ℕ → List ℕ) (file : List ℕ) (answer : Answer) → IsAnswer bytes (Shape file) answer
      ↔ (answer ≡ shape_answer file (bytes file))
  pub show : (bytes : List ℕ → List ℕ) (net : List ℕ) (answer : Answer) → IsAnswer bytes (Show net) answer
      ↔ (answer ≡ show_answer net (bytes net))
  pub bound : (bytes : List ℕ → List ℕ) (net : List ℕ) (answer : Answer) → IsAnswer bytes (Bound net) answer
      ↔ (answer ≡ bound_answer net (bytes net))
  pub explain : (bytes : List ℕ → List ℕ) (net : List ℕ) (answer : Answer) → IsAnswer bytes (Explain net) answer
      ↔ (answer ≡ explain_answer net (bytes net))
  pub settings : (bytes : List ℕ → List ℕ) (net : List ℕ) (answer : Answer) → IsAnswer bytes (Settings net) answer
      ↔ IsSettingsAnswer net (bytes net) answer
  pub check : (bytes : List ℕ → List ℕ) (net certificate : List ℕ) (answer : Answer)
      → IsAnswer bytes (Check net certificate) answer
      ↔ (answer ≡ check_answer net certificate (bytes net) (bytes certificate))
  pub buffers : (bytes : List ℕ → List ℕ) (net certificate : List ℕ) (answer : Answer)
      → IsAnswer bytes (Buffers net certificate) answer
      ↔ (answer ≡ buffers_answer net certificate (bytes net) (bytes certificate))
  pub conform : (bytes : List ℕ → List ℕ) (net schedule : List ℕ) (answer : Answer)
      → IsAnswer bytes (Conform net schedule) answer
      ↔ IsConformAnswer net schedule (bytes net) (bytes schedule) answer
  pub admit : (bytes : List ℕ → List ℕ) (net requests : List ℕ) (answer : Answer)
      → IsAnswer bytes (Admit net requests) answer
      ↔ (answer ≡ admit_answer net requests (bytes net) (bytes requests))
  pub replay : (bytes : List ℕ → List ℕ) (net schedule : List ℕ) (order : Order) (answer : Answer)
      → IsAnswer bytes (Replay net schedule order) answer
      ↔ IsReplayAnswer net schedule order (bytes net) (bytes schedule) answer
  pub capture : (bytes : List ℕ → List ℕ) (net station file : List ℕ) (order : Order) (answer : Answer)
      → IsAnswer bytes (Capture net station file order) answer
      ↔ IsCaptureAnswer net station file order (bytes net) (bytes file) answer
  pub generate : (bytes : List ℕ → List ℕ) (net : List ℕ) (seed count : ℕ) (answer : Answer)
      → IsAnswer bytes (Generate net seed count) answer
      ↔ IsGenerateAnswer net seed count (bytes net) answer
  pub peaks : (bytes : List ℕ → List ℕ) (net certificate schedule : List ℕ) (order : Order) (answer : Answer)
      → IsAnswer bytes (Peaks net certificate schedule order) answer
      ↔ IsPeaksAnswer net certificate schedule order (bytes net) (bytes certificate) (bytes schedule) answer
  pub lrq_shape : (bytes : List ℕ → List ℕ) (file : List ℕ) (answer : Answer) → IsAnswer bytes (LrqShape file) answer
      ↔ (answer ≡ lrq_shape_answer file (bytes file))
  pub lrq_bound : (bytes : List ℕ → List ℕ) (net : List ℕ) (answer : Answer) → IsAnswer bytes (LrqBound net) answer
      ↔ (answer ≡ lrq_bound_answer net (bytes net))
  pub lrq_check : (bytes : List ℕ → List ℕ) (net certificate : List ℕ) (answer : Answer)
      → IsAnswer bytes (LrqCheck net certificate) answer
      ↔ (answer ≡ lrq_check_answer net certificate (bytes net) (bytes certificate))
  pub of_port : (bytes : List ℕ → List ℕ) (net schedule port : List ℕ) (order : Order) (answer : Answer)
      → IsAnswer bytes (Record net schedule order port) answer
      ↔ IsRecordAnswer net schedule order port (bytes net) (bytes schedule) answer
  pub witness : (bytes : List ℕ → List ℕ) (net name : List ℕ) (answer : Answer)
      → IsAnswer bytes (Witness net name) answer
      ↔ IsWitnessAnswer net name (bytes net) answer
  pub releases : (bytes : List ℕ → List ℕ) (net station file : List ℕ) (answer : Answer)
      → IsAnswer bytes (Releases net station file) answer
      ↔ (answer ≡ releases_answer net station file (bytes net) (bytes file))
  pub fit : (bytes : List ℕ → List ℕ) (net schedule : List ℕ) (answer : Answer)
      → IsAnswer bytes (Fit net schedule) answer
      ↔ IsFitAnswer net schedule (bytes net) (bytes schedule) answer
  pub no_command : (bytes : List ℕ → List ℕ) (answer : Answer) → IsAnswer bytes Unknown answer
      ↔ (answer ≡ record { status = Words; text = codes "words\n" })

-- where bytes are told under its name, a network is declared; a station or a port of it has this name; and so are rows
-- for its ports
pub record FilesDeclare : Type 0 where
  pub network : (told : List ℕ → Option (List ℕ)) (net : List ℕ) → Declares told net
      ↔ ((bytes : List ℕ) → told net ≡ Some bytes
      → (network : DeclaredNetwork) × (network_in net bytes ≡ Ok network))
  pub station : (told : List ℕ → Option (List ℕ)) (net station : List ℕ) → DeclaresStation told net station
      ↔ ((bytes : List ℕ) → told net ≡ Some bytes
      → (network : DeclaredNetwork) × (place : ℕ) × (network_in net bytes ≡ Ok network)
      × (station_in network.topology station ≡ Ok place))
  pub port : (told : List ℕ → Option (List ℕ)) (net port : List ℕ) → DeclaresPort told net port
      ↔ ((bytes : List ℕ) → told net ≡ Some bytes
      → (network : DeclaredNetwork) × (place : ℕ) × (network_in net bytes ≡ Ok network)
      × (port_in network.topology port ≡ Ok place))
  pub rows : (told : List ℕ → Option (List ℕ)) (net certificate : List ℕ) → DeclaresRows told net certificate
      ↔ ((net_bytes bytes : List ℕ) → told net ≡ Some net_bytes → told certificate ≡ Some bytes
      → (network : DeclaredNetwork) × (rows : List Row) × (network_in net net_bytes ≡ Ok network)
      × (rows_in network.topology certificate bytes ≡ Ok rows))

-- a fault came at a file of a command: at its first, or at a later one that it comes to, as all before it is declared;
-- and at none of words that are no command
pub record FaultsAreOfReads : Type 0 where
  pub shape : (told : List ℕ → Option (List ℕ)) (file : List ℕ) (old new : List ℕ → ℕ)
      → ReadRose told (Shape file) old new ↔ Rose (old file) (new file)
  pub show : (told : List ℕ → Option (List ℕ)) (net : List ℕ) (old new : List ℕ → ℕ)
      → ReadRose told (Show net) old new ↔ Rose (old net) (new net)
  pub bound : (told : List ℕ → Option (List ℕ)) (net : List ℕ) (old new : List ℕ → ℕ)
      → ReadRose told (Bound net) old new ↔ Rose (old net) (new net)
  pub explain : (told : List ℕ → Option (List ℕ)) (net : List ℕ) (old new : List ℕ → ℕ)
      → ReadRose told (Explain net) old new ↔ Rose (old net) (new net)
  pub settings : (told : List ℕ → Option (List ℕ)) (net : List ℕ) (old new : List ℕ → ℕ)
      → ReadRose told (Settings net) old new ↔ Rose (old net) (new net)
  pub check : (told : List ℕ → Option (List ℕ)) (net certificate : List ℕ) (old new : List ℕ → ℕ)
      → ReadRose told (Check net certificate) old new
      ↔ (Rose (old net) (new net) ⊎ (Declares told net × Rose (old certificate) (new certificate)))
  pub buffers : (told : List ℕ → Option (List ℕ)) (net certificate : List ℕ) (old new : List ℕ → ℕ)
      → ReadRose told (Buffers net certificate) old new
      ↔ (Rose (old net) (new net) ⊎ (Declares told net × Rose (old certificate) (new certificate)))
  pub conform : (told : List ℕ → Option (List ℕ)) (net schedule : List ℕ) (old new : List ℕ → ℕ)
      → ReadRose told (Conform net schedule) old new
      ↔ (Rose (old net) (new net) ⊎ (Declares told net × Rose (old schedule) (new schedule)))
  pub admit : (told : List ℕ → Option (List ℕ)) (net requests : List ℕ) (old new : List ℕ → ℕ)
      → ReadRose told (Admit net requests) old new
      ↔ (Rose (old net) (new net) ⊎ (Declares told net × Rose (old requests) (new requests)))
  pub replay : (told : List ℕ → Option (List ℕ)) (net schedule : List ℕ) (order : Order) (old new : List ℕ → ℕ)
      → ReadRose told (Replay net schedule order) old new
      ↔ (Rose (old net) (new net) ⊎ (Declares told net × Rose (old schedule) (new schedule)))
  pub capture : (told : List ℕ → Option (List ℕ)) (net station file : List ℕ) (order : Order) (old new : List ℕ → ℕ)
      → ReadRose told (Capture net station file order) old new
      ↔ (Rose (old net) (new net) ⊎ (DeclaresStation told net station × Rose (old file) (new file)))
  pub generate : (told : List ℕ → Option (List ℕ)) (net : List ℕ) (seed count : ℕ) (old new : List ℕ → ℕ)
      → ReadRose told (Generate net seed count) old new ↔ Rose (old net) (new net)
  pub peaks : (told : List ℕ → Option (List ℕ)) (net certificate schedule : List ℕ) (order : Order)
      (old new : List ℕ → ℕ) → ReadRose told (Peaks net certificate schedule order) old new
      ↔ (Rose (old net) (new net) ⊎ ((Declares told net × Rose (old certificate) (new certificate))
      ⊎ (DeclaresRows told net certificate × Rose (old schedule) (new schedule))))
  pub lrq_shape : (told : List ℕ → Option (List ℕ)) (file : List ℕ) (old new : List ℕ → ℕ)
      → ReadRose told (LrqShape file) old new ↔ Rose (old file) (new file)
  pub lrq_bound : (told : List ℕ → Option (List ℕ)) (net : List ℕ) (old new : List ℕ → ℕ)
      → ReadRose told (LrqBound net) old new ↔ Rose (old net) (new net)
  pub lrq_check : (told : List ℕ → Option (List ℕ)) (net certificate : List ℕ) (old new : List ℕ → ℕ)
      → ReadRose told (LrqCheck net certificate) old new
      ↔ (Rose (old net) (new net) ⊎ (Declares told net × Rose (old certificate) (new certificate)))
  pub of_port : (told : List ℕ → Option (List ℕ)) (net schedule port : List ℕ) (order : Order) (old new : List ℕ → ℕ)
      → ReadRose told (Record net schedule order port) old new
      ↔ (Rose (old net) (new net) ⊎ (DeclaresPort told net port × Rose (old schedule) (new schedule)))
  pub witness : (told : List ℕ → Option (List ℕ)) (net name : List ℕ) (old new : List ℕ → ℕ)
      → ReadRose told (Witness net name) old new ↔ Rose (old net) (new net)
  pub releases : (told : List ℕ → Option (List ℕ)) (net station file : List ℕ) (old new : List ℕ → ℕ)
      → ReadRose told (Releases net station file) old new
      ↔ (Rose (old net) (new net) ⊎ (DeclaresStation told net station × Rose (old file) (new file)))
  pub fit : (told : List ℕ → Option (List ℕ)) (net schedule : List ℕ) (old new : List ℕ → ℕ)
      → ReadRose told (Fit net schedule) old new
      ↔ (Rose (old net) (new net) ⊎ (Declares told net × Rose (old schedule) (new schedule)))
  pub no_command : (told : List ℕ → Option (List ℕ)) (old new : List ℕ → ℕ) → ReadRose told Unknown old new ↔ ⊥

pub record CommandsAreAnswered : Type 0 where
  pub answers : AnswersAreOfBytes
  pub declaring : FilesDeclare
  pub read_faults : FaultsAreOfReads
