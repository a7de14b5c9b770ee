use Rattle.std.specs.Prelude.{ℕ, List, [], ◌∷◌}
use Rattle.ats_num.specs.Tie.{late_key}
use Rattle.ats_trace.specs.Journey.{Travel}
use Rattle.ats_trace.specs.Parts.{released}
use Rattle.ats_trace.specs.Run.{IsRunBy}
use Rattle.ats_examples.specs.BrokenRuns.{too_long}
use Rattle.ats_examples.specs.Deviations.{BreaksAlone}
use Rattle.ats_examples.specs.LegalRuns.{frame_key, greatest_wait, least_wait}
use Rattle.ats_examples.specs.Runs.{hop, sunk}
use Rattle.ats_crossing_examples.specs.Discards.{discarded}
use Rattle.ats_crossing_examples.specs.Networks.{crossed}

-- Frames of undeclared sizes that bridges send themselves.

-- the first bridge sends a frame of its stream, an octet too long, and behind it one of its flow, an octet too long;
-- they come to the second bridge at these times. That one sends an octet too much itself
abbrev pub own_long : ℕ → ℕ → List Travel
own_long first second =
    discarded 1 65 (hop 0 0 0 680000 ∷ too_long first ∷ [])
    ∷ discarded 3 321 (hop 0 0 680000 3408000 ∷ too_long second ∷ [])
    ∷ sunk 0 2 65 (hop 0 0 0 680000 ∷ []) 1180000
    ∷ []

-- a frame of this sender and so many octets is discarded by the bridge that should send it
abbrev pub never_sent : ℕ → ℕ → List Travel
never_sent sender octets = discarded sender octets (too_long 0 ∷ []) ∷ []

-- each is eligible at its release at the bridge that sends it, and the next bridge discards it, behind a port with a
-- processing interval too. Refuses a bridge that judges the sizes of its own frames
pub record OwnFramesHaveAnySize : Type 0 where
  pub least : IsRunBy frame_key least_wait crossed (own_long 1380000 4108000)
  pub greatest : IsRunBy late_key greatest_wait crossed (own_long 2180000 4908000)
  pub not_least : ¬ IsRunBy frame_key least_wait crossed (own_long 1380001 4108000)
  pub not_greatest : ¬ IsRunBy late_key greatest_wait crossed (own_long 2180000 4907999)
  pub of_stream : BreaksAlone released crossed (never_sent 1 65)
  pub of_flow : BreaksAlone released crossed (never_sent 3 321)
  pub of_last : BreaksAlone released crossed (never_sent 2 65)
