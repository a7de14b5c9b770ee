use Rattle.std.specs.Prelude.{◌≡◌, ℕ, List, IsErr}
use Rattle.ats_command_input.specs.Answer.{Answer}
use Rattle.ats_command_input.specs.Command.{Shape, Show, Bound, Explain, Settings, Check, Buffers, Conform, Admit}
use Rattle.ats_command_input.specs.Command.{LrqShape, LrqBound, LrqCheck, Releases, Fit, Unknown, command_of}
use Rattle.ats_command_input.specs.Command.{Replay, Capture, Generate, Peaks, Record, Witness}
use Rattle.ats_command_input.specs.declared.order.Order.{Order}
use Rattle.ats_command_due.specs.Captured.{captured_in}
use Rattle.ats_command_due.specs.Due.{IsDueAnswer, told_bytes}
use Rattle.ats_command_due.specs.Generated.{generated_in}
use Rattle.ats_command_due.specs.Held.{held_in}
use Rattle.ats_command_due.specs.Recorded.{recorded_in}
use Rattle.ats_command_due.specs.Replayed.{scheduled_in}
use Rattle.ats_command_due.specs.Witnessed.{witnessed_in}
use Rattle.ats_command_law.specs.Laws.{HasOneAnswer, IsOnlyDue}
use Rattle.ats_answer_law.specs.Due.{Told}

-- Of which commands the law `one_answer_is_due` speaks, and what it says.

-- of these, whatever is told under the names of their files
pub record AlwaysHaveOne : Type 0 where
  pub shape : (told : Told) (file : List ℕ) → HasOneAnswer told (Shape file)
  pub show : (told : Told) (net : List ℕ) → HasOneAnswer told (Show net)
  pub bound : (told : Told) (net : List ℕ) → HasOneAnswer told (Bound net)
  pub explain : (told : Told) (net : List ℕ) → HasOneAnswer told (Explain net)
  pub settings : (told : Told) (net : List ℕ) → HasOneAnswer told (Settings net)
  pub check : (told : Told) (net certificate : List ℕ) → HasOneAnswer told (Check net certificate)
  pub buffers : (told : Told) (net certificate : List ℕ) → HasOneAnswer told (Buffers net certificate)
  pub conform : (told : Told) (net schedule : List ℕ) → HasOneAnswer told (Conform net schedule)
  pub admit : (told : Told) (net requests : List ℕ) → HasOneAnswer told (Admit net requests)
  pub lrq_shape : (told : Told) (file : List ℕ) → HasOneAnswer told (LrqShape file)
  pub lrq_bound : (told : Told) (net : List ℕ) → HasOneAnswer told (LrqBound net)
  pub lrq_check : (told : Told) (net certificate : List ℕ) → HasOneAnswer told (LrqCheck net certificate)
  pub releases : (told : Told) (net station file : List ℕ) → HasOneAnswer told (Releases net station file)
  pub fit : (told : Told) (net schedule : List ℕ) → HasOneAnswer told (Fit net schedule)
  pub unknown : (told : Told) → HasOneAnswer told Unknown

-- of the others, where they come to nothing of which there may be several texts
pub record HaveOneWithoutRuns : Type 0 where
  pub replay : (told : Told) (net schedule : List ℕ) (order : Order)
      → IsErr (scheduled_in net schedule (told_bytes told net) (told_bytes told schedule))
      → HasOneAnswer told (Replay net schedule order)
  pub capture : (told : Told) (net station file : List ℕ) (order : Order)
      → IsErr (captured_in net station file (told_bytes told net) (told_bytes told file))
      → HasOneAnswer told (Capture net station file order)
  pub generate : (told : Told) (net : List ℕ) (seed count : ℕ)
      → IsErr (generated_in net seed count (told_bytes told net)) → HasOneAnswer told (Generate net seed count)
  pub peaks : (told : Told) (net certificate schedule : List ℕ) (order : Order)
      → IsErr (held_in net certificate schedule (told_bytes told net) (told_bytes told certificate)
      (told_bytes told schedule))
      → HasOneAnswer told (Peaks net certificate schedule order)
  pub recorded : (told : Told) (net schedule port : List ℕ) (order : Order)
      → IsErr (recorded_in net schedule port (told_bytes told net) (told_bytes told schedule))
      → HasOneAnswer told (Record net schedule order port)
  pub witness : (told : Told) (net name : List ℕ) → IsErr (witnessed_in net name (told_bytes told net))
      → HasOneAnswer told (Witness net name)

-- it says that an answer is due, and that each that is due is this one
abbrev pub OnlyDueIsOne : Type 0
OnlyDueIsOne = (told : Told) (words : List (List ℕ)) (answer : Answer) → IsOnlyDue told words answer
    → IsDueAnswer told (command_of words) answer
    × ((other : Answer) → IsDueAnswer told (command_of words) other → other ≡ answer)

-- all of this
pub record JustOneIsLeft : Type 0 where
  pub always : AlwaysHaveOne
  pub without_runs : HaveOneWithoutRuns
  pub only : OnlyDueIsOne
