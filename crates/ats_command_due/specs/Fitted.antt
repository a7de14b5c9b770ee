use Rattle.std.specs.Prelude.{ℕ, List}
use Rattle.ats_fit_text.specs.Text.{IsFitText}
use Rattle.ats_command_due.specs.Replayed.{Scheduled}

-- a text prints what is measured of the releases of what is scheduled
abbrev pub IsFitted : Scheduled → List ℕ → Type 0
IsFitted scheduled text = IsFitText scheduled.network scheduled.releases text
