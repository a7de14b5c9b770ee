use Rattle.std.specs.Prelude.{◌≡◌, ℕ, List, Option, Ok}
use Rattle.ats_network.specs.Network.{DeclaredNetwork}
use Rattle.ats_certificate.specs.declared.row.Row.{Row}
use Rattle.ats_verdict_text.specs.Runs.{Runs, ats_runs, in_true_time}
use Rattle.ats_verdict_text.specs.Sound.{IsSoundBy}
use Rattle.ats_verdict_text.specs.InTime.{FramesAreInTimeBy}
use Rattle.ats_lrq.specs.Judge.{lrq_judge, spacing_rule}
use Rattle.ats_verdict_text.specs.Text.{accepted_text}
use Rattle.ats_io.specs.Outside.{appended}
use Rattle.ats_command_input.specs.Command.{Command, Check, LrqCheck}
use Rattle.ats_command_due.specs.Due.{IsTold, told_bytes}
use Rattle.ats_command_input.specs.Input.{network_in, rows_in}

-- the runs of length-rate-quotient regulators by true time, where talkers are asked to keep their spacing
abbrev pub lrq_runs : Runs
lrq_runs = in_true_time lrq_judge spacing_rule

-- a text gives the bounds of rows and their sums; the bounds are sound in these runs, where talkers keep what is asked
-- of them, and by them each frame of a talker that keeps it arrives at each listener within the sum for it and within
-- the deadline
pub record IsSoundTextBy (runs : Runs) (network : DeclaredNetwork) (rows : List Row) (text : List ℕ) : Type 0 where
  pub sound : IsSoundBy runs network rows
  pub in_time : FramesAreInTimeBy runs network rows
  pub written : text ≡ accepted_text network rows

-- and the runs are those of Asynchronous Traffic Shaping, where talkers keep their buckets
abbrev pub IsSoundText : DeclaredNetwork → List Row → List ℕ → Type 0
IsSoundText network rows text = IsSoundTextBy ats_runs network rows text

-- a file of these bytes declares rows for a network, of which the text is such a one
abbrev pub IsSoundFile : DeclaredNetwork → List ℕ → List ℕ → List ℕ → Type 0
IsSoundFile network certificate bytes text =
    (rows : List Row) × (rows_in network.topology certificate bytes ≡ Ok rows) × IsSoundText network rows text

-- two files of these bytes declare this network and these rows, of which the text is such a one in these runs
pub record AreSoundBy (runs : Runs) (net certificate net_bytes certificate_bytes text : List ℕ)
    (network : DeclaredNetwork) (rows : List Row) : Type 0 where
  pub network_declared : network_in net net_bytes ≡ Ok network
  pub rows_declared : rows_in network.topology certificate certificate_bytes ≡ Ok rows
  pub is_sound : IsSoundTextBy runs network rows text

-- the files of these words declare a network and rows, of which the text is such a one in these runs
abbrev pub PromisesBy : Runs → (List ℕ → Option (List ℕ)) → List ℕ → List ℕ → List ℕ → Type 0
PromisesBy runs told net certificate text = (network : DeclaredNetwork) × (rows : List Row)
    × AreSoundBy runs net certificate (told_bytes told net) (told_bytes told certificate) text network rows

-- what a command promises of the text that it is done with, where the files tell their bytes. `check`: they declare a
-- network and rows, of which the text is such a one by the groups of Asynchronous Traffic Shaping and for talkers that
-- keep their buckets. `lrq check`: by length-rate-quotient regulators and for talkers that keep their spacing, in each
-- legal run of the network as it is declared. The others promise nothing beyond that their answer is due
abbrev pub Promises : (List ℕ → Option (List ℕ)) → Command → List ℕ → Type 0
Promises told (Check net certificate) text =
    IsTold told (Check net certificate) → PromisesBy ats_runs told net certificate text
Promises told (LrqCheck net certificate) text =
    IsTold told (LrqCheck net certificate) → PromisesBy lrq_runs told net certificate text
Promises told command text = Unit {0}

-- a text was printed, whole, of which holds what the command promises
abbrev pub PrintsAsPromised : (List ℕ → Option (List ℕ)) → Command → Option (List ℕ) → Option (List ℕ) → Type 0
PrintsAsPromised told command old new = (text : List ℕ) × (new ≡ appended old text) × Promises told command text
