use Rattle.std.specs.Prelude.{◌≡◌, ℕ, ◌⊎◌, List, [], All, IsSome, IsOk, Option, unwrap_or, Ok}
use Rattle.ats_io.specs.Outside.{IfTold}
use Rattle.ats_shape.specs.Text.{text_of}
use Rattle.ats_lrq.specs.Narrow.{narrowed}
use Rattle.ats_lrq_shape.specs.Verdicts.{lrq_text_of}
use Rattle.ats_network_text.specs.Text.{show_text}
use Rattle.ats_command_input.specs.Command.{Command, Shape, Show, Bound, Explain, Check, Replay, Unknown, file_words}
use Rattle.ats_command_input.specs.Command.{Capture, Conform, Admit, Generate}
use Rattle.ats_command_input.specs.Command.{Settings}
use Rattle.ats_command_input.specs.Command.{Buffers, Peaks}
use Rattle.ats_command_input.specs.Command.{LrqBound, LrqCheck, LrqShape}
use Rattle.ats_command_input.specs.Command.{Record, Witness}
use Rattle.ats_command_input.specs.Command.{Releases, Fit}
use Rattle.ats_num.specs.Failure.{◌>>=◌}
use Rattle.ats_command_input.specs.declared.order.Order.{Order}
use Rattle.ats_command_input.specs.Answer.{Answer, words_answer, settled}
use Rattle.ats_command_input.specs.Input.{shape_in, network_in, rows_in}
use Rattle.ats_command_due.specs.Judged.{bound_judged, certificate_judged, explain_judged, requests_judged}
use Rattle.ats_command_due.specs.Judged.{rows_judged}
use Rattle.ats_command_input.specs.Port.{port_in}
use Rattle.ats_command_input.specs.Station.{station_in}
use Rattle.ats_command_due.specs.Captured.{IsCaptured, captured_in}
use Rattle.ats_command_due.specs.Conformed.{IsAnswerTo, JudgesScheduled}
use Rattle.ats_command_due.specs.Fitted.{IsFitted}
use Rattle.ats_command_due.specs.Generated.{IsGenerated, generated_in}
use Rattle.ats_command_due.specs.Held.{IsHeldText, held_in}
use Rattle.ats_command_due.specs.Replayed.{IsOneOf, IsReplayed, scheduled_in}
use Rattle.ats_command_due.specs.Recorded.{IsRecorded, recorded_in}
use Rattle.ats_command_due.specs.Released.{released_in}
use Rattle.ats_command_due.specs.Set.{TellsSettings}
use Rattle.ats_command_due.specs.Witnessed.{IsWitnessed, witnessed_in}

-- to `shape FILE`, by the bytes of the file
unfoldable pub shape_answer : List ℕ → List ℕ → Answer
shape_answer file bytes = settled (do
  shape ← shape_in file bytes
  Ok (text_of shape))

-- to `show NET`
unfoldable pub show_answer : List ℕ → List ℕ → Answer
show_answer net bytes = settled (do
  network ← network_in net bytes
  Ok (show_text network))

-- to `bound NET`
unfoldable pub bound_answer : List ℕ → List ℕ → Answer
bound_answer net bytes = settled (do
  network ← network_in net bytes
  bound_judged network)

-- to `explain NET`
unfoldable pub explain_answer : List ℕ → List ℕ → Answer
explain_answer net bytes = settled (do
  network ← network_in net bytes
  explain_judged network)

-- an answer to `settings NET`, by the bytes of the file
abbrev pub IsSettingsAnswer : List ℕ → List ℕ → Answer → Type 0
IsSettingsAnswer net bytes answer = IsAnswerTo TellsSettings (network_in net bytes) answer

-- to `check NET CERT`, by the bytes of both files; the network's is judged first
unfoldable pub check_answer : List ℕ → List ℕ → List ℕ → List ℕ → Answer
check_answer net certificate net_bytes certificate_bytes = settled (do
  network ← network_in net net_bytes
  certificate_judged network certificate certificate_bytes)

-- to `buffers NET CERT`, by the bytes of both files; the network's is judged first
unfoldable pub buffers_answer : List ℕ → List ℕ → List ℕ → List ℕ → Answer
buffers_answer net certificate net_bytes certificate_bytes = settled (do
  network ← network_in net net_bytes
  rows_judged network certificate certificate_bytes)

-- an answer to `buffers NET CERT SCHEDULE ORDER`, by the bytes of the three files: it prints the peaks of some run in
-- this order
abbrev pub IsPeaksAnswer : List ℕ → List ℕ → List ℕ → Order → List ℕ → List ℕ → List ℕ → Answer → Type 0
IsPeaksAnswer net certificate schedule order net_bytes certificate_bytes schedule_bytes answer =
    IsOneOf (IsHeldText order)
    (held_in net certificate schedule net_bytes certificate_bytes schedule_bytes) answer

-- an answer to `replay NET SCHEDULE ORDER`, by the bytes of both files: it prints some run in this order
abbrev pub IsReplayAnswer : List ℕ → List ℕ → Order → List ℕ → List ℕ → Answer → Type 0
IsReplayAnswer net schedule order net_bytes schedule_bytes answer =
    IsOneOf (IsReplayed order) (scheduled_in net schedule net_bytes schedule_bytes) answer

-- an answer to `capture NET STATION FILE ORDER`, by the bytes of both files: it prints some run in this order
abbrev pub IsCaptureAnswer : List ℕ → List ℕ → List ℕ → Order → List ℕ → List ℕ → Answer → Type 0
IsCaptureAnswer net station file order net_bytes file_bytes answer =
    IsOneOf (IsCaptured order) (captured_in net station file net_bytes file_bytes) answer

-- an answer to `conform NET SCHEDULE`, by the bytes of both files
abbrev pub IsConformAnswer : List ℕ → List ℕ → List ℕ → List ℕ → Answer → Type 0
IsConformAnswer net schedule net_bytes schedule_bytes answer =
    IsAnswerTo JudgesScheduled (scheduled_in net schedule net_bytes schedule_bytes) answer

-- to `admit NET REQUESTS`, by the bytes of both files; the network's form is judged first, then that of the requests
unfoldable pub admit_answer : List ℕ → List ℕ → List ℕ → List ℕ → Answer
admit_answer net requests net_bytes requests_bytes = settled (do
  network ← network_in net net_bytes
  requests_judged network requests requests_bytes)

-- an answer to `generate NET SEED COUNT`, by the bytes of the file: it says what came of some run in the order `early`
abbrev pub IsGenerateAnswer : List ℕ → ℕ → ℕ → List ℕ → Answer → Type 0
IsGenerateAnswer net seed count bytes answer =
    IsOneOf (IsGenerated seed count) (generated_in net seed count bytes) answer

-- to `lrq shape FILE`, by the bytes of the file
unfoldable pub lrq_shape_answer : List ℕ → List ℕ → Answer
lrq_shape_answer file bytes = settled (do
  shape ← shape_in file bytes
  Ok (lrq_text_of shape))

-- to `lrq bound NET`: what is due to `bound` for the narrowed network
unfoldable pub lrq_bound_answer : List ℕ → List ℕ → Answer
lrq_bound_answer net bytes = settled (do
  network ← network_in net bytes
  bound_judged (narrowed network))

-- to `lrq check NET CERT`: what is due to `check` for the narrowed network
unfoldable pub lrq_check_answer : List ℕ → List ℕ → List ℕ → List ℕ → Answer
lrq_check_answer net certificate net_bytes certificate_bytes = settled (do
  network ← network_in net net_bytes
  certificate_judged (narrowed network) certificate certificate_bytes)

-- an answer to `record NET SCHEDULE ORDER PORT`, by the bytes of both files: it prints the capture of the port in some
-- run in this order
abbrev pub IsRecordAnswer : List ℕ → List ℕ → Order → List ℕ → List ℕ → List ℕ → Answer → Type 0
IsRecordAnswer net schedule order port net_bytes schedule_bytes answer =
    IsOneOf (IsRecorded order) (recorded_in net schedule port net_bytes schedule_bytes) answer

-- an answer to `witness NET NAME`, by the bytes of the file: it prints delays that are found of the stream
abbrev pub IsWitnessAnswer : List ℕ → List ℕ → List ℕ → Answer → Type 0
IsWitnessAnswer net name bytes answer = IsOneOf IsWitnessed (witnessed_in net name bytes) answer

-- to `releases NET STATION FILE`, by the bytes of both files: the schedule of the releases that `capture` runs
unfoldable pub releases_answer : List ℕ → List ℕ → List ℕ → List ℕ → List ℕ → Answer
releases_answer net station file net_bytes file_bytes = settled (released_in net station file net_bytes file_bytes)

-- an answer to `fit NET SCHEDULE`, by the bytes of both files: it prints what is measured of the releases
abbrev pub IsFitAnswer : List ℕ → List ℕ → List ℕ → List ℕ → Answer → Type 0
IsFitAnswer net schedule net_bytes schedule_bytes answer =
    IsOneOf IsFitted (scheduled_in net schedule net_bytes schedule_bytes) answer

-- an answer to a command, where its files have these bytes
abbrev pub IsAnswer : (List ℕ → List ℕ) → Command → Answer → Type 0
IsAnswer bytes (Shape file) answer = answer ≡ shape_answer file (bytes file)
IsAnswer bytes (Show net) answer = answer ≡ show_answer net (bytes net)
IsAnswer bytes (Bound net) answer = answer ≡ bound_answer net (bytes net)
IsAnswer bytes (Explain net) answer = answer ≡ explain_answer net (bytes net)
IsAnswer bytes (Settings net) answer = IsSettingsAnswer net (bytes net) answer
IsAnswer bytes (Check net certificate) answer = answer ≡ check_answer net certificate (bytes net) (bytes certificate)
IsAnswer bytes (Buffers net certificate) answer =
    answer ≡ buffers_answer net certificate (bytes net) (bytes certificate)
IsAnswer bytes (Conform net schedule) answer = IsConformAnswer net schedule (bytes net) (bytes schedule) answer
IsAnswer bytes (Admit net requests) answer = answer ≡ admit_answer net requests (bytes net) (bytes requests)
IsAnswer bytes (Replay net schedule order) answer =
    IsReplayAnswer net schedule order (bytes net) (bytes schedule) answer
IsAnswer bytes (Capture net station file order) answer =
    IsCaptureAnswer net station file order (bytes net) (bytes file) answer
IsAnswer bytes (Generate net seed count) answer = IsGenerateAnswer net seed count (bytes net) answer
IsAnswer bytes (Peaks net certificate schedule order) answer =
    IsPeaksAnswer net certificate schedule order (bytes net) (bytes certificate) (bytes schedule) answer
IsAnswer bytes (LrqShape file) answer = answer ≡ lrq_shape_answer file (bytes file)
IsAnswer bytes (LrqBound net) answer = answer ≡ lrq_bound_answer net (bytes net)
IsAnswer bytes (LrqCheck net certificate) answer =
    answer ≡ lrq_check_answer net certificate (bytes net) (bytes certificate)
IsAnswer bytes (Record net schedule order port) answer =
    IsRecordAnswer net schedule order port (bytes net) (bytes schedule) answer
IsAnswer bytes (Witness net name) answer = IsWitnessAnswer net name (bytes net) answer
IsAnswer bytes (Releases net station file) answer = answer ≡ releases_answer net station file (bytes net) (bytes file)
IsAnswer bytes (Fit net schedule) answer = IsFitAnswer net schedule (bytes net) (bytes schedule) answer
IsAnswer bytes Unknown answer = answer ≡ words_answer

-- the bytes of each file word are told
abbrev pub IsTold : (List ℕ → Option (List ℕ)) → Command → Type 0
IsTold told command = All (λ name. IsSome (told name)) (file_words command)

-- the bytes that are told under a name
abbrev pub told_bytes : (List ℕ → Option (List ℕ)) → List ℕ → List ℕ
told_bytes told name = unwrap_or (told name) []

-- an answer is due to a command: the bytes of its files are told, and it is an answer where they have these
pub record IsDueAnswer (told : List ℕ → Option (List ℕ)) (command : Command) (answer : Answer) : Type 0 where
  pub is_told : IsTold told command
  pub answers : IsAnswer (told_bytes told) command answer

-- where bytes are told under a name, they declare a network
abbrev pub Declares : (List ℕ → Option (List ℕ)) → List ℕ → Type 0
Declares told net = IfTold (told net) (λ bytes. IsOk (network_in net bytes))

-- they declare one in which a station has this name
abbrev pub DeclaresStation : (List ℕ → Option (List ℕ)) → List ℕ → List ℕ → Type 0
DeclaresStation told net station =
    IfTold (told net) (λ bytes. IsOk (network_in net bytes >>= λ network. station_in network.topology station))

-- they declare one in which a port has this name
abbrev pub DeclaresPort : (List ℕ → Option (List ℕ)) → List ℕ → List ℕ → Type 0
DeclaresPort told net port =
    IfTold (told net) (λ bytes. IsOk (network_in net bytes >>= λ network. port_in network.topology port))

-- they declare one, and the bytes that are told under another name the rows of a certificate for it
abbrev pub DeclaresRows : (List ℕ → Option (List ℕ)) → List ℕ → List ℕ → Type 0
DeclaresRows told net certificate =
    IfTold (told net) (λ net_bytes. IfTold (told certificate) (λ bytes.
    IsOk (network_in net net_bytes >>= λ network. rows_in network.topology certificate bytes)))

-- a command comes to read this file: where bytes are told, nothing before it has a fault
abbrev pub Reaches : (List ℕ → Option (List ℕ)) → Command → List ℕ → Type 0
Reaches told (Shape file) name = name ≡ file
Reaches told (Show net) name = name ≡ net
Reaches told (Bound net) name = name ≡ net
Reaches told (Explain net) name = name ≡ net
Reaches told (Settings net) name = name ≡ net
Reaches told (Check net certificate) name = (name ≡ net) ⊎ ((name ≡ certificate) × Declares told net)
Reaches told (Buffers net certificate) name = (name ≡ net) ⊎ ((name ≡ certificate) × Declares told net)
Reaches told (Conform net schedule) name = (name ≡ net) ⊎ ((name ≡ schedule) × Declares told net)
Reaches told (Admit net requests) name = (name ≡ net) ⊎ ((name ≡ requests) × Declares told net)
Reaches told (Replay net schedule order) name = (name ≡ net) ⊎ ((name ≡ schedule) × Declares told net)
Reaches told (Capture net station file order) name =
    (name ≡ net) ⊎ ((name ≡ file) × DeclaresStation told net station)
Reaches told (Generate net seed count) name = name ≡ net
Reaches told (Peaks net certificate schedule order) name =
    (name ≡ net) ⊎ (((name ≡ certificate) × Declares told net)
    ⊎ ((name ≡ schedule) × DeclaresRows told net certificate))
Reaches told (LrqShape file) name = name ≡ file
Reaches told (LrqBound net) name = name ≡ net
Reaches told (LrqCheck net certificate) name = (name ≡ net) ⊎ ((name ≡ certificate) × Declares told net)
Reaches told (Record net schedule order port) name = (name ≡ net) ⊎ ((name ≡ schedule) × DeclaresPort told net port)
Reaches told (Witness net stream) name = name ≡ net
Reaches told (Releases net station file) name = (name ≡ net) ⊎ ((name ≡ file) × DeclaresStation told net station)
Reaches told (Fit net schedule) name = (name ≡ net) ⊎ ((name ≡ schedule) × Declares told net)
Reaches told Unknown name = ⊥
