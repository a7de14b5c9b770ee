use Rattle.std.specs.Prelude.{◌≡◌, ◌↔◌, List, Some, codes, ℕ}
use Rattle.ats_command_input.specs.Answer.{Answer}
use Rattle.ats_command_input.specs.Command.{Admit, Bound, Buffers, Capture, Check, Conform, Explain, Fit, Generate}
use Rattle.ats_command_input.specs.Command.{LrqBound, LrqCheck, LrqShape, Peaks, Releases, Replay, Settings, Shape}
use Rattle.ats_command_input.specs.Command.{Show, Unknown, Witness}
use Rattle.ats_command_input.specs.declared.order.Order.{Order}
use Rattle.ats_command_input.specs.declared.status.Status.TheVariants.{Words}
use Rattle.ats_command_input.specs.Command as table
use Rattle.ats_command_due.specs.Due.{IsDueAnswer}
use Rattle.ats_command_law.specs.AdmitMeaning.{AdmitSays}
use Rattle.ats_command_law.specs.BufferMeaning.{BuffersSay, PeaksSay}
use Rattle.ats_command_law.specs.CaptureMeaning.{CaptureSays}
use Rattle.ats_command_law.specs.ConformMeaning.{ConformSays}
use Rattle.ats_command_law.specs.ExplainMeaning.{ExplainSays}
use Rattle.ats_command_law.specs.FitMeaning.{FitSays}
use Rattle.ats_command_law.specs.GenerateMeaning.{GenerateSays}
use Rattle.ats_command_law.specs.LrqMeaning.{LrqBoundSays, LrqCheckSays, LrqShapeSays}
use Rattle.ats_command_law.specs.Meaning.{BoundSays, CheckSays}
use Rattle.ats_command_law.specs.RecordMeaning.{RecordSays}
use Rattle.ats_command_law.specs.ReleasesMeaning.{ReleasesSay}
use Rattle.ats_command_law.specs.ReplayMeaning.{ReplaySays}
use Rattle.ats_command_law.specs.SettingsMeaning.{SettingsSay}
use Rattle.ats_command_law.specs.WitnessMeaning.{WitnessSays}
use Rattle.ats_answer_law.specs.Due.{AdmitIsDue, BoundIsDue, BuffersAreDue, CaptureIsDue, CheckIsDue, ConformIsDue}
use Rattle.ats_answer_law.specs.Due.{ExplainIsDue, FitIsDue, GenerateIsDue, LrqBoundIsDue, LrqCheckIsDue, LrqShapeIsDue}
use Rattle.ats_answer_law.specs.Due.{PeaksAreDue, RecordIsDue, ReleasesAreDue, ReplayIsDue, SettingsAreDue, ShapeIsDue}
use Rattle.ats_answer_law.specs.Due.{ShowIsDue, Told, WitnessIsDue, WordsAreDue}
use Rattle.ats_answer_law.specs.Shown.{ShapeSays, ShowSays}

-- What each law of an answer that is due comes to, both ways: bytes are told under the name of each file, and the
-- answer says this of them.

-- each law of an answer that is due
pub record DuesAreMeant : Type 0 where
  pub shape : ShapeIsDue ↔ ((file : List ℕ) (told : Told) (answer : Answer)
      → IsDueAnswer told (Shape file) answer
      → (bytes : List ℕ) × (told file ≡ Some bytes) × ShapeSays file bytes answer.text answer.status)
  pub show : ShowIsDue ↔ ((net : List ℕ) (told : Told) (answer : Answer)
      → IsDueAnswer told (Show net) answer
      → (bytes : List ℕ) × (told net ≡ Some bytes) × ShowSays net bytes answer.text answer.status)
  pub bound : BoundIsDue ↔ ((net : List ℕ) (told : Told) (answer : Answer)
      → IsDueAnswer told (Bound net) answer
      → (bytes : List ℕ) × (told net ≡ Some bytes) × BoundSays net bytes answer.text answer.status)
  pub explain : ExplainIsDue ↔ ((net : List ℕ) (told : Told) (answer : Answer)
      → IsDueAnswer told (Explain net) answer
      → (bytes : List ℕ) × (told net ≡ Some bytes) × ExplainSays net bytes answer.text answer.status)
  pub check : CheckIsDue ↔ ((net certificate : List ℕ) (told : Told) (answer : Answer)
      → IsDueAnswer told (Check net certificate) answer
      → (net_bytes : List ℕ) × (told net ≡ Some net_bytes) × ((bytes : List ℕ) × (told certificate ≡ Some bytes)
      × CheckSays net certificate net_bytes bytes answer.text answer.status))
  pub conform : ConformIsDue ↔ ((net schedule : List ℕ) (told : Told) (answer : Answer)
      → IsDueAnswer told (Conform net schedule) answer
      → (net_bytes : List ℕ) × (told net ≡ Some net_bytes) × ((bytes : List ℕ) × (told schedule ≡ Some bytes)
      × ConformSays net schedule net_bytes bytes answer.text answer.status))
  pub admit : AdmitIsDue ↔ ((net requests : List ℕ) (told : Told) (answer : Answer)
      → IsDueAnswer told (Admit net requests) answer
      → (net_bytes : List ℕ) × (told net ≡ Some net_bytes) × ((bytes : List ℕ) × (told requests ≡ Some bytes)
      × AdmitSays net requests net_bytes bytes answer.text answer.status))
  pub replay : ReplayIsDue ↔ ((net schedule : List ℕ) (order : Order) (told : Told) (answer : Answer)
      → IsDueAnswer told (Replay net schedule order) answer
      → (net_bytes : List ℕ) × (told net ≡ Some net_bytes) × ((bytes : List ℕ) × (told schedule ≡ Some bytes)
      × ReplaySays net schedule net_bytes bytes order answer.text answer.status))
  pub capture : CaptureIsDue ↔ ((net station file : List ℕ) (order : Order) (told : Told) (answer : Answer)
      → IsDueAnswer told (Capture net station file order) answer
      → (net_bytes : List ℕ) × (told net ≡ Some net_bytes) × ((bytes : List ℕ) × (told file ≡ Some bytes)
      × CaptureSays net station file net_bytes bytes order answer.text answer.status))
  pub generate : GenerateIsDue ↔ ((net : List ℕ) (seed count : ℕ) (told : Told) (answer : Answer)
      → IsDueAnswer told (Generate net seed count) answer
      → (bytes : List ℕ) × (told net ≡ Some bytes) × GenerateSays net bytes seed count answer.text answer.status)
  pub settings : SettingsAreDue ↔ ((net : List ℕ) (told : Told) (answer : Answer)
      → IsDueAnswer told (Settings net) answer
      → (bytes : List ℕ) × (told net ≡ Some bytes) × SettingsSay net bytes answer.text answer.status)
  pub buffers : BuffersAreDue ↔ ((net certificate : List ℕ) (told : Told) (answer : Answer)
      → IsDueAnswer told (Buffers net certificate) answer
      → (net_bytes : List ℕ) × (told net ≡ Some net_bytes) × ((bytes : List ℕ) × (told certificate ≡ Some bytes)
      × BuffersSay net certificate net_bytes bytes answer.text answer.status))
  pub peaks : PeaksAreDue ↔ ((net certificate schedule : List ℕ) (order : Order) (told : Told) (answer : Answer)
      → IsDueAnswer told (Peaks net certificate schedule order) answer
      → (net_bytes : List ℕ) × (told net ≡ Some net_bytes) × ((rows_bytes : List ℕ)
      × (told certificate ≡ Some rows_bytes) × ((bytes : List ℕ) × (told schedule ≡ Some bytes)
      × PeaksSay net certificate schedule net_bytes rows_bytes bytes order answer.text answer.status)))
  pub lrq_shape : LrqShapeIsDue ↔ ((file : List ℕ) (told : Told) (answer : Answer)
      → IsDueAnswer told (LrqShape file) answer
      → (bytes : List ℕ) × (told file ≡ Some bytes) × LrqShapeSays file bytes answer.text answer.status)
  pub lrq_bound : LrqBoundIsDue ↔ ((net : List ℕ) (told : Told) (answer : Answer)
      → IsDueAnswer told (LrqBound net) answer
      → (bytes : List ℕ) × (told net ≡ Some bytes) × LrqBoundSays net bytes answer.text answer.status)
  pub lrq_check : LrqCheckIsDue ↔ ((net certificate : List ℕ) (told : Told) (answer : Answer)
      → IsDueAnswer told (LrqCheck net certificate) answer
      → (net_bytes : List ℕ) × (told net ≡ Some net_bytes) × ((bytes : List ℕ) × (told certificate ≡ Some bytes)
      × LrqCheckSays net certificate net_bytes bytes answer.text answer.status))
  pub port_record : RecordIsDue ↔ ((net schedule port : List ℕ) (order : Order) (told : Told) (answer : Answer)
      → IsDueAnswer told (table.Record net schedule order port) answer
      → (net_bytes : List ℕ) × (told net ≡ Some net_bytes) × ((bytes : List ℕ) × (told schedule ≡ Some bytes)
      × RecordSays net schedule port net_bytes bytes order answer.text answer.status))
  pub witness : WitnessIsDue ↔ ((net name : List ℕ) (told : Told) (answer : Answer)
      → IsDueAnswer told (Witness net name) answer
      → (bytes : List ℕ) × (told net ≡ Some bytes) × WitnessSays net name bytes answer.text answer.status)
  pub releases : ReleasesAreDue ↔ ((net station file : List ℕ) (told : Told) (answer : Answer)
      → IsDueAnswer told (Releases net station file) answer
      → (net_bytes : List ℕ) × (told net ≡ Some net_bytes) × ((bytes : List ℕ) × (told file ≡ Some bytes)
      × ReleasesSay net station file net_bytes bytes answer.text answer.status))
  pub fit : FitIsDue ↔ ((net schedule : List ℕ) (told : Told) (answer : Answer)
      → IsDueAnswer told (Fit net schedule) answer
      → (net_bytes : List ℕ) × (told net ≡ Some net_bytes) × ((bytes : List ℕ) × (told schedule ≡ Some bytes)
      × FitSays net schedule net_bytes bytes answer.text answer.status))
  pub words : WordsAreDue ↔ ((told : Told) (answer : Answer) → IsDueAnswer told Unknown answer
      → answer ≡ record { status = Words; text = codes "words\n" })
