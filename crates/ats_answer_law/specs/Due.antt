use Rattle.std.specs.Prelude.{◌≡◌, ℕ, List, codes, Option, Some}
use Rattle.ats_command_input.specs.Answer.{Answer}
use Rattle.ats_command_input.specs.Command.{Command, Shape, Show, Bound, Explain, Check, Conform, Admit, Replay}
use Rattle.ats_command_input.specs.Command.{Capture, Generate, Settings, Buffers, Peaks, LrqShape, LrqBound, LrqCheck}
use Rattle.ats_command_input.specs.Command.{Record, Witness, Releases, Fit, Unknown}
use Rattle.ats_command_input.specs.declared.order.Order.{Order}
use Rattle.ats_command_input.specs.declared.status.Status.{Status}
use Rattle.ats_command_input.specs.declared.status.Status.TheVariants.{Words}
use Rattle.ats_command_due.specs.Due.{IsDueAnswer}
use Rattle.ats_command_law.specs.AdmitMeaning.{AdmitSays}
use Rattle.ats_command_law.specs.BufferMeaning.{BuffersSay, PeaksSay}
use Rattle.ats_command_law.specs.CaptureMeaning.{CaptureSays}
use Rattle.ats_command_law.specs.ConformMeaning.{ConformSays}
use Rattle.ats_command_law.specs.ExplainMeaning.{ExplainSays}
use Rattle.ats_command_law.specs.FitMeaning.{FitSays}
use Rattle.ats_command_law.specs.GenerateMeaning.{GenerateSays}
use Rattle.ats_command_law.specs.LrqMeaning.{LrqBoundSays, LrqCheckSays, LrqShapeSays}
use Rattle.ats_command_law.specs.Meaning.{BoundSays, CheckSays}
use Rattle.ats_command_law.specs.RecordMeaning.{RecordSays}
use Rattle.ats_command_law.specs.ReleasesMeaning.{ReleasesSay}
use Rattle.ats_command_law.specs.ReplayMeaning.{ReplaySays}
use Rattle.ats_command_law.specs.SettingsMeaning.{SettingsSay}
use Rattle.ats_command_law.specs.WitnessMeaning.{WitnessSays}
use Rattle.ats_answer_law.specs.Shown.{ShapeSays, ShowSays}

-- What each answer that is due to a command says of the bytes that are told under the names of its files.

-- what is told under each name, where bytes are
abbrev pub Told : Type 0
Told = List ℕ → Option (List ℕ)

-- bytes are told under a name, and this holds of them
abbrev pub Of : Told → List ℕ → (List ℕ → Type 0) → Type 0
Of told file Holds = (bytes : List ℕ) × (told file ≡ Some bytes) × Holds bytes

-- the same of two names
abbrev pub OfBoth : Told → List ℕ → List ℕ → (List ℕ → List ℕ → Type 0) → Type 0
OfBoth told net file Holds = Of told net (λ net_bytes. Of told file (Holds net_bytes))

-- and of three
abbrev pub OfThree : Told → List ℕ → List ℕ → List ℕ → (List ℕ → List ℕ → List ℕ → Type 0) → Type 0
OfThree told net second third Holds = Of told net (λ net_bytes. OfBoth told second third (Holds net_bytes))

-- an answer says this of the bytes that are told under a name, by its text and status
abbrev pub SaysOf : Told → List ℕ → (List ℕ → List ℕ → Status → Type 0) → Answer → Type 0
SaysOf told file Says answer = Of told file (λ bytes. Says bytes answer.text answer.status)

abbrev pub SaysOfBoth : Told → List ℕ → List ℕ → (List ℕ → List ℕ → List ℕ → Status → Type 0) → Answer → Type 0
SaysOfBoth told net file Says answer =
    OfBoth told net file (λ net_bytes bytes. Says net_bytes bytes answer.text answer.status)

-- each answer that is due to a command says this
abbrev pub EachSays : Command → (Told → Answer → Type 0) → Type 0
EachSays command Says = (told : Told) (answer : Answer) → IsDueAnswer told command answer → Says told answer

abbrev pub ShapeIsDue : Type 0
ShapeIsDue = (file : List ℕ) → EachSays (Shape file) (λ told answer. SaysOf told file (ShapeSays file) answer)

abbrev pub ShowIsDue : Type 0
ShowIsDue = (net : List ℕ) → EachSays (Show net) (λ told answer. SaysOf told net (ShowSays net) answer)

abbrev pub BoundIsDue : Type 0
BoundIsDue = (net : List ℕ) → EachSays (Bound net) (λ told answer. SaysOf told net (BoundSays net) answer)

abbrev pub ExplainIsDue : Type 0
ExplainIsDue = (net : List ℕ) → EachSays (Explain net) (λ told answer. SaysOf told net (ExplainSays net) answer)

abbrev pub CheckIsDue : Type 0
CheckIsDue = (net certificate : List ℕ) → EachSays (Check net certificate)
    (λ told answer. SaysOfBoth told net certificate (CheckSays net certificate) answer)

abbrev pub ConformIsDue : Type 0
ConformIsDue = (net schedule : List ℕ) → EachSays (Conform net schedule)
    (λ told answer. SaysOfBoth told net schedule (ConformSays net schedule) answer)

abbrev pub AdmitIsDue : Type 0
AdmitIsDue = (net requests : List ℕ) → EachSays (Admit net requests)
    (λ told answer. SaysOfBoth told net requests (AdmitSays net requests) answer)

abbrev pub ReplayIsDue : Type 0
ReplayIsDue = (net schedule : List ℕ) (order : Order) → EachSays (Replay net schedule order)
    (λ told answer. SaysOfBoth told net schedule
    (λ net_bytes bytes. ReplaySays net schedule net_bytes bytes order) answer)

abbrev pub CaptureIsDue : Type 0
CaptureIsDue = (net station file : List ℕ) (order : Order) → EachSays (Capture net station file order)
    (λ told answer. SaysOfBoth told net file
    (λ net_bytes bytes. CaptureSays net station file net_bytes bytes order) answer)

abbrev pub GenerateIsDue : Type 0
GenerateIsDue = (net : List ℕ) (seed count : ℕ) → EachSays (Generate net seed count)
    (λ told answer. SaysOf told net (λ bytes. GenerateSays net bytes seed count) answer)

abbrev pub SettingsAreDue : Type 0
SettingsAreDue = (net : List ℕ) → EachSays (Settings net) (λ told answer. SaysOf told net (SettingsSay net) answer)

abbrev pub BuffersAreDue : Type 0
BuffersAreDue = (net certificate : List ℕ) → EachSays (Buffers net certificate)
    (λ told answer. SaysOfBoth told net certificate (BuffersSay net certificate) answer)

abbrev pub PeaksAreDue : Type 0
PeaksAreDue = (net certificate schedule : List ℕ) (order : Order) → EachSays (Peaks net certificate schedule order)
    (λ told answer. OfThree told net certificate schedule
    (λ net_bytes rows_bytes bytes.
    PeaksSay net certificate schedule net_bytes rows_bytes bytes order answer.text answer.status))

abbrev pub LrqShapeIsDue : Type 0
LrqShapeIsDue = (file : List ℕ) → EachSays (LrqShape file) (λ told answer. SaysOf told file (LrqShapeSays file) answer)

abbrev pub LrqBoundIsDue : Type 0
LrqBoundIsDue = (net : List ℕ) → EachSays (LrqBound net) (λ told answer. SaysOf told net (LrqBoundSays net) answer)

abbrev pub LrqCheckIsDue : Type 0
LrqCheckIsDue = (net certificate : List ℕ) → EachSays (LrqCheck net certificate)
    (λ told answer. SaysOfBoth told net certificate (LrqCheckSays net certificate) answer)

abbrev pub RecordIsDue : Type 0
RecordIsDue = (net schedule port : List ℕ) (order : Order) → EachSays (Record net schedule order port)
    (λ told answer. SaysOfBoth told net schedule
    (λ net_bytes bytes. RecordSays net schedule port net_bytes bytes order) answer)

abbrev pub WitnessIsDue : Type 0
WitnessIsDue = (net name : List ℕ) → EachSays (Witness net name)
    (λ told answer. SaysOf told net (WitnessSays net name) answer)

abbrev pub ReleasesAreDue : Type 0
ReleasesAreDue = (net station file : List ℕ) → EachSays (Releases net station file)
    (λ told answer. SaysOfBoth told net file (ReleasesSay net station file) answer)

abbrev pub FitIsDue : Type 0
FitIsDue = (net schedule : List ℕ) → EachSays (Fit net schedule)
    (λ told answer. SaysOfBoth told net schedule (FitSays net schedule) answer)

-- to words that are no command, whatever is told, one answer alone
abbrev pub WordsAreDue : Type 0
WordsAreDue = EachSays Unknown (λ told answer. answer ≡ record { status = Words; text = codes "words\n" })
