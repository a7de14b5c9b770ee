use Rattle.std.specs.Prelude.{◌≡◌, ℕ, List, Ok}
use Rattle.ats_network.specs.Network.{DeclaredNetwork}
use Rattle.ats_certificate.specs.declared.row.Row.{Row}
use Rattle.ats_command_input.specs.Input.{rows_in}
use Rattle.ats_command_due.specs.Soundness.{IsSoundTextBy, lrq_runs}

-- a file of these bytes declares rows for a network, of which a text gives the bounds; these are sound for
-- length-rate-quotient regulators and spaced talkers, whose frames are in time by them
abbrev pub IsSpacedFile : DeclaredNetwork → List ℕ → List ℕ → List ℕ → Type 0
IsSpacedFile network certificate bytes text =
    (rows : List Row) × (rows_in network.topology certificate bytes ≡ Ok rows)
    × IsSoundTextBy lrq_runs network rows text
