use Rattle.std.specs.Prelude.{◌≡◌, ◌↔◌, ◌⊎◌, ◌≤◌, ◌<◌, ◌+◌, All, IsErr, IsOk, List, None, Ok, Some, length, slice_get}
use Rattle.std.specs.Prelude.{slice_index, take, ℕ}
use Rattle.ats_network.specs.Class.{port_before}
use Rattle.ats_network.specs.Network.{DeclaredNetwork, IsNetwork, senders_of}
use Rattle.ats_network.specs.Senders.{sender_at}
use Rattle.ats_lrq.specs.Narrow.{narrowed}
use Rattle.ats_settings.specs.Settings.{AreSettings}
use Rattle.ats_settings.specs.declared.setting.Setting.{Setting}
use Rattle.ats_trace.specs.Journey.{Travel}
use Rattle.ats_trace.specs.declared.journey.Release.{Release}
use Rattle.ats_settings_law.specs.Laws.{AreSetAlike, IsNamedBetween, IsTrueOf}
use Rattle.ats_certificate.specs.Certificate.{Holds}
use Rattle.ats_certificate.specs.declared.row.Row.{Row}
use Rattle.ats_tally.specs.declared.reason.Reason.{Reason}
use Rattle.ats_tally.specs.declared.reason.Reason.TheVariants.{Overloaded}
use Rattle.ats_bound.specs.First.{IsFirstOverload, IsFirstReason}
use Rattle.ats_bound.specs.Least.{least_certificate}
use Rattle.ats_explain.specs.Laws.{Carries, IsClear, StreamAddsUp}
use Rattle.ats_soundness_law.specs.Runs.{ats_runs}
use Rattle.ats_soundness_law.specs.Sound.{IsSoundBy}
use Rattle.ats_checker.specs.First.{IsFirst}
use Rattle.ats_checker.specs.InTime.{FramesAreInTimeBy}
use Rattle.ats_checker.specs.declared.refusal.Refusal.{Refusal}
use Rattle.ats_buffer.specs.Buffer.{buffers_of}
use Rattle.ats_buffer.specs.Occupancy.{row_at}
use Rattle.ats_buffer_law.specs.Laws.{NodesKeepInTrueTime}
use Rattle.ats_requests.specs.Requests.{after_all, answers}
use Rattle.ats_requests.specs.declared.answer.Answer.{Answer}
use Rattle.ats_requests.specs.declared.request.Request.{Request}
use Rattle.ats_shape.specs.Shape.{DeclaredShape}
use Rattle.ats_shape.specs.Text.{report_on, text_of}
use Rattle.ats_lrq_shape.specs.Verdicts.{lrq_verdicts_on}
use Rattle.ats_network_text.specs.Text.{show_text}
use Rattle.ats_certificate_file.specs.Text.{certificate_text}
use Rattle.ats_settings_text.specs.Text.{settings_text}
use Rattle.ats_verdict_text.specs.Text.{accepted_text, reason_text, refusal_text, refused_text}
use Rattle.ats_explain_text.specs.Text.{explain_text}
use Rattle.ats_buffer_text.specs.Text.{buffers_text}
use Rattle.ats_admission_text.specs.Text.{admission_text}
use Rattle.ats_command_input.specs.Input.{network_in, releases_in, requests_in, rows_in, shape_in}
use Rattle.ats_command_input.specs.declared.order.Order.{Order}
use Rattle.ats_command_input.specs.declared.status.Status.TheVariants as status
use Rattle.ats_command_due.specs.Held.{IsHeldRun, held}
use Rattle.ats_command_due.specs.Soundness.{AreSoundBy, IsSoundTextBy, lrq_runs}
use Rattle.ats_command_law.specs.AdmitMeaning.{AdmitSays, AreAnswers, IsSoundlyBounded, network_after}
use Rattle.ats_command_law.specs.Answered.{AnswerTells}
use Rattle.ats_command_law.specs.BufferMeaning.{AreBuffers, BuffersSay, PeaksSay}
use Rattle.ats_command_law.specs.ExplainMeaning.{ExplainSays}
use Rattle.ats_command_law.specs.LrqMeaning.{EachConforms, LrqBoundSays, LrqCheckSays, LrqShapeSays}
use Rattle.ats_command_law.specs.Meaning.{CheckSays, IsRefused}
use Rattle.ats_command_law.specs.SettingsMeaning.{JudgeAlike, SettingsSay}
use Rattle.ats_answer_law.specs.Never.{NeverCome}
use Rattle.ats_answer_law.specs.Shown.{ShapeSays, ShowSays}

-- What an answer to each command that bounds, checks, admits or shows says, by its status and both ways: each part is
-- written out, and there are no others. Of `bound` this is `BoundIsMeant`.

-- an answer to `check`, by its status
pub record CheckIsMeant : Type 0 where
  pub done : (net certificate net_bytes certificate_bytes text : List ℕ)
      → CheckSays net certificate net_bytes certificate_bytes text status.Done
      ↔ ((network : DeclaredNetwork) × (rows : List Row) × (network_in net net_bytes ≡ Ok network)
      × (rows_in network.topology certificate certificate_bytes ≡ Ok rows) × IsNetwork network × Holds network rows
      × IsSoundBy ats_runs network rows × FramesAreInTimeBy ats_runs network rows
      × (text ≡ accepted_text network rows))
  pub input : (net certificate net_bytes certificate_bytes text : List ℕ)
      → CheckSays net certificate net_bytes certificate_bytes text status.Input
      ↔ (IsErr (network_in net net_bytes)
      ⊎ ((network : DeclaredNetwork) × (network_in net net_bytes ≡ Ok network)
      × IsErr (rows_in network.topology certificate certificate_bytes)))
  pub refused : (net certificate net_bytes certificate_bytes text : List ℕ)
      → CheckSays net certificate net_bytes certificate_bytes text status.Refused
      ↔ ((network : DeclaredNetwork) × (rows : List Row) × (refusal : Refusal)
      × (network_in net net_bytes ≡ Ok network) × (rows_in network.topology certificate certificate_bytes ≡ Ok rows)
      × IsNetwork network × IsFirst network rows refusal × (¬ Holds network rows)
      × (text ≡ refused_text (refusal_text network.topology refusal)))
  pub never : (net certificate net_bytes certificate_bytes text : List ℕ)
      → NeverCome (CheckSays net certificate net_bytes certificate_bytes text)

-- to `explain`
pub record ExplainIsMeant : Type 0 where
  pub done : (net bytes text : List ℕ)
      → ExplainSays net bytes text status.Done
      ↔ ((network : DeclaredNetwork) × (network_in net bytes ≡ Ok network) × IsNetwork network × Carries network
      × All (StreamAddsUp network) network.streams × (IsClear network ↔ ((rows : List Row) × Holds network rows))
      × (text ≡ explain_text network))
  pub input : (net bytes text : List ℕ)
      → ExplainSays net bytes text status.Input
      ↔ IsErr (network_in net bytes)
  pub refused : (net bytes text : List ℕ)
      → ExplainSays net bytes text status.Refused
      ↔ ((network : DeclaredNetwork) × (port : ℕ) × (class : ℕ) × (load : ℕ) × (network_in net bytes ≡ Ok network)
      × IsNetwork network × IsFirstOverload network port class load × ((rows : List Row) → ¬ Holds network rows)
      × (text ≡ refused_text (reason_text network.topology (Overloaded port class load))))
  pub never : (net bytes text : List ℕ)
      → NeverCome (ExplainSays net bytes text)

-- to `admit`
pub record AdmitIsMeant : Type 0 where
  pub done : (net requests net_bytes requests_bytes text : List ℕ)
      → AdmitSays net requests net_bytes requests_bytes text status.Done
      ↔ ((network : DeclaredNetwork) × (asked : List Request) × (network_in net net_bytes ≡ Ok network)
      × (requests_in network requests requests_bytes ≡ Ok asked)
      × ((k : ℕ) → IsSoundlyBounded (network_after network asked k)) × AreAnswers network asked
      × (text ≡ admission_text network asked))
  pub input : (net requests net_bytes requests_bytes text : List ℕ)
      → AdmitSays net requests net_bytes requests_bytes text status.Input
      ↔ (IsErr (network_in net net_bytes)
      ⊎ ((network : DeclaredNetwork) × (network_in net net_bytes ≡ Ok network)
      × IsErr (requests_in network requests requests_bytes)))
  pub refused : (net requests net_bytes requests_bytes text : List ℕ)
      → AdmitSays net requests net_bytes requests_bytes text status.Refused
      ↔ ((network : DeclaredNetwork) × (asked : List Request) × (reason : Reason)
      × (network_in net net_bytes ≡ Ok network) × (requests_in network requests requests_bytes ≡ Ok asked)
      × IsNetwork network × IsFirstReason network reason × ((rows : List Row) → ¬ Holds network rows)
      × (text ≡ refused_text (reason_text network.topology reason)))
  pub never : (net requests net_bytes requests_bytes text : List ℕ)
      → NeverCome (AdmitSays net requests net_bytes requests_bytes text)

-- to `buffers` without a schedule
pub record BufferAnswersAreMeant : Type 0 where
  pub done : (net certificate net_bytes certificate_bytes text : List ℕ)
      → BuffersSay net certificate net_bytes certificate_bytes text status.Done
      ↔ ((network : DeclaredNetwork) × (rows : List Row) × (network_in net net_bytes ≡ Ok network)
      × (rows_in network.topology certificate certificate_bytes ≡ Ok rows) × IsNetwork network
      × AreBuffers network rows (buffers_of network rows)
      × (text ≡ buffers_text network.topology rows (buffers_of network rows) None))
  pub input : (net certificate net_bytes certificate_bytes text : List ℕ)
      → BuffersSay net certificate net_bytes certificate_bytes text status.Input
      ↔ (IsErr (network_in net net_bytes)
      ⊎ ((network : DeclaredNetwork) × (network_in net net_bytes ≡ Ok network)
      × IsErr (rows_in network.topology certificate certificate_bytes)))
  pub refused : (net certificate net_bytes certificate_bytes text : List ℕ)
      → BuffersSay net certificate net_bytes certificate_bytes text status.Refused
      ↔ ((network : DeclaredNetwork) × (rows : List Row) × (refusal : Refusal)
      × (network_in net net_bytes ≡ Ok network) × (rows_in network.topology certificate certificate_bytes ≡ Ok rows)
      × IsNetwork network × IsFirst network rows refusal × (¬ Holds network rows)
      × (text ≡ refused_text (refusal_text network.topology refusal)))
  pub never : (net certificate net_bytes certificate_bytes text : List ℕ)
      → NeverCome (BuffersSay net certificate net_bytes certificate_bytes text)

-- to `buffers` with one
pub record PeakAnswersAreMeant : Type 0 where
  pub done : (net certificate schedule net_bytes certificate_bytes schedule_bytes : List ℕ) (order : Order)
      (text : List ℕ)
      → PeaksSay net certificate schedule net_bytes certificate_bytes schedule_bytes order text status.Done
      ↔ ((network : DeclaredNetwork) × (rows : List Row) × (releases : List Release) × (run : List Travel)
      × (peaks : List ℕ) × (network_in net net_bytes ≡ Ok network)
      × (rows_in network.topology certificate certificate_bytes ≡ Ok rows)
      × (releases_in network schedule schedule_bytes ≡ Ok releases) × IsNetwork network
      × AreBuffers network rows (buffers_of network rows)
      × IsHeldRun order (held network rows releases) text run peaks
      × ((n : ℕ) → n < length rows → NodesKeepInTrueTime network run (row_at rows n).port (row_at rows n).class
      → slice_index peaks n ≤ slice_index (buffers_of network rows) n))
  pub input : (net certificate schedule net_bytes certificate_bytes schedule_bytes : List ℕ) (order : Order)
      (text : List ℕ)
      → PeaksSay net certificate schedule net_bytes certificate_bytes schedule_bytes order text status.Input
      ↔ (IsErr (network_in net net_bytes)
      ⊎ (((network : DeclaredNetwork) × (network_in net net_bytes ≡ Ok network)
      × IsErr (rows_in network.topology certificate certificate_bytes))
      ⊎ ((network : DeclaredNetwork) × (rows : List Row) × (network_in net net_bytes ≡ Ok network)
      × (rows_in network.topology certificate certificate_bytes ≡ Ok rows)
      × IsErr (releases_in network schedule schedule_bytes))))
  pub refused : (net certificate schedule net_bytes certificate_bytes schedule_bytes : List ℕ) (order : Order)
      (text : List ℕ)
      → PeaksSay net certificate schedule net_bytes certificate_bytes schedule_bytes order text status.Refused
      ↔ ((network : DeclaredNetwork) × (rows : List Row) × (refusal : Refusal)
      × IsRefused net certificate net_bytes certificate_bytes text network rows refusal
      × IsOk (releases_in network schedule schedule_bytes))
  pub never : (net certificate schedule net_bytes certificate_bytes schedule_bytes : List ℕ) (order : Order)
      (text : List ℕ)
      → NeverCome (PeaksSay net certificate schedule net_bytes certificate_bytes schedule_bytes order text)

-- to `settings`
pub record SettingsAreMeant : Type 0 where
  pub done : (net bytes text : List ℕ)
      → SettingsSay net bytes text status.Done
      ↔ ((network : DeclaredNetwork) × (settings : List Setting) × (network_in net bytes ≡ Ok network)
      × IsNetwork network × AreSettings network settings
      × ((others : List Setting) → AreSettings network others → others ≡ settings) × All (IsTrueOf network) settings
      × ((sender : ℕ) → sender < length (senders_of network) → (before port : ℕ)
      → port_before (sender_at network sender) port ≡ Some before → IsNamedBetween settings sender before port)
      × ((other : DeclaredNetwork) → AreSetAlike network other settings → JudgeAlike network other settings)
      × (text ≡ settings_text network settings))
  pub input : (net bytes text : List ℕ)
      → SettingsSay net bytes text status.Input
      ↔ IsErr (network_in net bytes)
  pub not_refused : (net bytes text : List ℕ)
      → ¬ SettingsSay net bytes text status.Refused
  pub never : (net bytes text : List ℕ)
      → NeverCome (SettingsSay net bytes text)

-- to `show`
pub record ShowIsMeant : Type 0 where
  pub done : (net bytes text : List ℕ)
      → ShowSays net bytes text status.Done
      ↔ ((network : DeclaredNetwork) × (network_in net bytes ≡ Ok network) × IsNetwork network
      × (text ≡ show_text network))
  pub input : (net bytes text : List ℕ)
      → ShowSays net bytes text status.Input
      ↔ IsErr (network_in net bytes)
  pub not_refused : (net bytes text : List ℕ)
      → ¬ ShowSays net bytes text status.Refused
  pub never : (net bytes text : List ℕ)
      → NeverCome (ShowSays net bytes text)

-- to `shape`
pub record ShapeIsMeant : Type 0 where
  pub done : (file bytes text : List ℕ)
      → ShapeSays file bytes text status.Done
      ↔ ((shape : DeclaredShape) × (shape_in file bytes ≡ Ok shape) × (text ≡ text_of shape))
  pub input : (file bytes text : List ℕ)
      → ShapeSays file bytes text status.Input
      ↔ IsErr (shape_in file bytes)
  pub not_refused : (file bytes text : List ℕ)
      → ¬ ShapeSays file bytes text status.Refused
  pub never : (file bytes text : List ℕ)
      → NeverCome (ShapeSays file bytes text)

-- to `lrq shape`
pub record LrqShapeIsMeant : Type 0 where
  pub done : (file bytes text : List ℕ)
      → LrqShapeSays file bytes text status.Done
      ↔ ((shape : DeclaredShape) × (shape_in file bytes ≡ Ok shape) × EachConforms shape
      × (text ≡ report_on shape (lrq_verdicts_on shape)))
  pub input : (file bytes text : List ℕ)
      → LrqShapeSays file bytes text status.Input
      ↔ IsErr (shape_in file bytes)
  pub not_refused : (file bytes text : List ℕ)
      → ¬ LrqShapeSays file bytes text status.Refused
  pub never : (file bytes text : List ℕ)
      → NeverCome (LrqShapeSays file bytes text)

-- to `lrq bound`
pub record LrqBoundIsMeant : Type 0 where
  pub done : (net bytes text : List ℕ)
      → LrqBoundSays net bytes text status.Done
      ↔ ((network : DeclaredNetwork) × (network_in net bytes ≡ Ok network) × IsNetwork network
      × Holds (narrowed network) (least_certificate (narrowed network))
      × IsSoundBy lrq_runs network (least_certificate (narrowed network))
      × FramesAreInTimeBy lrq_runs network (least_certificate (narrowed network))
      × (text ≡ certificate_text network.topology (least_certificate (narrowed network))))
  pub input : (net bytes text : List ℕ)
      → LrqBoundSays net bytes text status.Input
      ↔ IsErr (network_in net bytes)
  pub refused : (net bytes text : List ℕ)
      → LrqBoundSays net bytes text status.Refused
      ↔ ((network : DeclaredNetwork) × (reason : Reason) × (network_in net bytes ≡ Ok network) × IsNetwork network
      × IsFirstReason (narrowed network) reason × ((rows : List Row) → ¬ Holds (narrowed network) rows)
      × (text ≡ refused_text (reason_text network.topology reason)))
  pub never : (net bytes text : List ℕ)
      → NeverCome (LrqBoundSays net bytes text)

-- to `lrq check`
pub record LrqCheckIsMeant : Type 0 where
  pub done : (net certificate net_bytes certificate_bytes text : List ℕ)
      → LrqCheckSays net certificate net_bytes certificate_bytes text status.Done
      ↔ ((network : DeclaredNetwork) × (rows : List Row) × IsNetwork network × Holds (narrowed network) rows
      × AreSoundBy lrq_runs net certificate net_bytes certificate_bytes text network rows)
  pub input : (net certificate net_bytes certificate_bytes text : List ℕ)
      → LrqCheckSays net certificate net_bytes certificate_bytes text status.Input
      ↔ (IsErr (network_in net net_bytes)
      ⊎ ((network : DeclaredNetwork) × (network_in net net_bytes ≡ Ok network)
      × IsErr (rows_in network.topology certificate certificate_bytes)))
  pub refused : (net certificate net_bytes certificate_bytes text : List ℕ)
      → LrqCheckSays net certificate net_bytes certificate_bytes text status.Refused
      ↔ ((network : DeclaredNetwork) × (rows : List Row) × (refusal : Refusal)
      × (network_in net net_bytes ≡ Ok network) × (rows_in network.topology certificate certificate_bytes ≡ Ok rows)
      × IsNetwork network × IsFirst (narrowed network) rows refusal × (¬ Holds (narrowed network) rows)
      × (text ≡ refused_text (refusal_text network.topology refusal)))
  pub never : (net certificate net_bytes certificate_bytes text : List ℕ)
      → NeverCome (LrqCheckSays net certificate net_bytes certificate_bytes text)

-- what these words come to: what `lrq check` promises of its text, by its own runs, the answers to requests, and
-- the network after some of them
pub record BoundWordsAreMeant : Type 0 where
  pub promised : (net certificate net_bytes certificate_bytes text : List ℕ)
      (network : DeclaredNetwork) (rows : List Row)
      → AreSoundBy lrq_runs net certificate net_bytes certificate_bytes text network rows
      ↔ ((network_in net net_bytes ≡ Ok network)
      × (rows_in network.topology certificate certificate_bytes ≡ Ok rows) × IsSoundTextBy lrq_runs network rows text)
  pub answered : (network : DeclaredNetwork) (asked : List Request)
      → AreAnswers network asked
      ↔ ((length (answers network asked) ≡ length asked)
      × ((k : ℕ) (request : Request) (answer : Answer) → slice_get asked k ≡ Some request
      → slice_get (answers network asked) k ≡ Some answer
      → AnswerTells (network_after network asked k) (network_after network asked (k + 1)) request answer))
  pub after : (network : DeclaredNetwork) (asked : List Request) (k : ℕ)
      → network_after network asked k ≡ after_all network (take k asked)

-- of all of these
pub record BoundAnswersAreMeant : Type 0 where
  pub check : CheckIsMeant
  pub explain : ExplainIsMeant
  pub admit : AdmitIsMeant
  pub buffers : BufferAnswersAreMeant
  pub peaks : PeakAnswersAreMeant
  pub settings : SettingsAreMeant
  pub show : ShowIsMeant
  pub shape : ShapeIsMeant
  pub lrq_shape : LrqShapeIsMeant
  pub lrq_bound : LrqBoundIsMeant
  pub lrq_check : LrqCheckIsMeant
  pub bound_words : BoundWordsAreMeant
