use Rattle.std.specs.Prelude.{◌≡◌, ℕ, List, Option, Ok}
use Rattle.ats_network.specs.Network.{DeclaredNetwork}
use Rattle.ats_network_file.specs.Reading.{IsBeforeFormat3}
use Rattle.ats_certificate.specs.declared.row.Row.{Row}
use Rattle.ats_soundness_law.specs.Runs.{Runs, ats_runs}
use Rattle.ats_soundness_law.specs.Sound.{IsSoundBy}
use Rattle.ats_checker.specs.InTime.{FramesAreInTimeBy}
use Rattle.ats_verdict_text.specs.Text.{accepted_text}
use Rattle.ats_command_input.specs.Command.{Check, LrqCheck}
use Rattle.ats_command_input.specs.Input.{network_in, rows_in}
use Rattle.ats_command_due.specs.Due.{IsTold, told_bytes}
use Rattle.ats_command_due.specs.Soundness.{Promises, lrq_runs}
use Rattle.ats_promise_law.specs.Stations.{TalkersAreEnough}

-- both files declare this network and these rows; the rows are sound in these runs, where talkers keep what is asked of
-- them, frames are in time by them, and the text gives their bounds and sums. Of a network file of format 1 or 2
-- nothing is asked of bridges
pub record AreDeclared (runs : Runs) (net certificate net_bytes certificate_bytes text : List ℕ)
    (network : DeclaredNetwork) (rows : List Row) : Type 0 where
  pub network_declared : network_in net net_bytes ≡ Ok network
  pub rows_declared : rows_in network.topology certificate certificate_bytes ≡ Ok rows
  pub sound : IsSoundBy runs network rows
  pub in_time : FramesAreInTimeBy runs network rows
  pub before : IsBeforeFormat3 net_bytes → TalkersAreEnough runs network rows
  pub written : text ≡ accepted_text network rows

-- there are such a network and rows of the files of these words
abbrev pub SomeAreDeclared : Runs → (List ℕ → Option (List ℕ)) → List ℕ → List ℕ → List ℕ → Type 0
SomeAreDeclared runs told net certificate text = (network : DeclaredNetwork) × (rows : List Row)
    × AreDeclared runs net certificate (told_bytes told net) (told_bytes told certificate) text network rows

-- what `check` promises of its text is that, by the groups of Asynchronous Traffic Shaping and for talkers that keep
-- their buckets; what `lrq check` does, by length-rate-quotient regulators and for talkers that keep their spacing
pub record PromisesAreKept : Type 0 where
  pub check : (told : List ℕ → Option (List ℕ)) (net certificate text : List ℕ)
      → Promises told (Check net certificate) text → IsTold told (Check net certificate)
      → SomeAreDeclared ats_runs told net certificate text
  pub lrq_check : (told : List ℕ → Option (List ℕ)) (net certificate text : List ℕ)
      → Promises told (LrqCheck net certificate) text → IsTold told (LrqCheck net certificate)
      → SomeAreDeclared lrq_runs told net certificate text
