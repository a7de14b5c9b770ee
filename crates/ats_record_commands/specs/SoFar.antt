use Rattle.std.specs.Prelude.{◌≡◌, ℕ, List}
use Rattle.std.specs.List.{AllZip, range_with_len}
use Rattle.ats_network.specs.Network.{DeclaredNetwork}
use Rattle.ats_witness.specs.Found.{AreFound, FoundDelays}
use Rattle.ats_witness_text.specs.Text.{witness_text}
use Rattle.ats_command_due.specs.Witnessed.{least_sum}

-- delays that are found of a stream for its first listeners, so many, and a text that writes them
pub record AreWitnessed (network : DeclaredNetwork) (stream count : ℕ) (text : List ℕ) (founds : List FoundDelays)
    : Type 0 where
  pub are_found : AllZip (AreFound network stream) (range_with_len 0 count) founds
  pub written : text ≡ witness_text network stream founds (least_sum network stream)

-- a text is that of some such delays
abbrev pub IsWitnessSoFar : DeclaredNetwork → ℕ → ℕ → List ℕ → Type 0
IsWitnessSoFar network stream count text =
    (founds : List FoundDelays) × AreWitnessed network stream count text founds
