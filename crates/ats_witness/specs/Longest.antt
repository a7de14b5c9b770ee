-- How the greatest delay is found, frame by frame: what the clauses of private functions speak of. What it is, `Delay`
-- alone says.
use Rattle.std.specs.Prelude.{ℕ, ◌-◌, ◌==◌, max, List, fold, Option, Some, None, if◌then◌else◌}
use Rattle.ats_trace.specs.Journey.{Travel}
use Rattle.ats_trace.specs.Stored.{leg_in}
use Rattle.ats_trace.specs.declared.journey.Ending.{Ending}
use Rattle.ats_trace.specs.declared.journey.Ending.TheVariants.{Sink, Discard}

-- how long a frame took from this release to a listener, if it came there
abbrev pub took_from : ℕ → Ending → Option ℕ
took_from release (Sink at) = Some (at.0 - release)
took_from release Discard = None

-- a frame to the listener with a number, if it is one of the sender
abbrev pub took_of : ℕ → ℕ → Travel → Option ℕ
took_of sender listener j =
    if j.release.sender == sender then took_from j.release.at.0 (leg_in j listener).ending else None

-- the greater of two numbers, of those that are there
abbrev pub greater : Option ℕ → Option ℕ → Option ℕ
greater None b = b
greater (Some a) None = Some a
greater (Some a) (Some b) = Some (max a b)

-- the greatest that one of these frames took, of a sender to a listener
abbrev pub longest_of : ℕ → ℕ → List Travel → Option ℕ
longest_of sender listener run =
    fold (λ (longest : Option ℕ) (j : Travel). greater longest (took_of sender listener j)) None run
