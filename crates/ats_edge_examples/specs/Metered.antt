use Rattle.std.specs.Prelude.{◌≡◌, ℕ, ◌==◌, List, filter, map}
use Rattle.std.specs.List.{enumerate_from}
use Rattle.ats_conform.specs.Releases.{metered_at, metered_from}
use Rattle.ats_trace.specs.declared.journey.Release.{Release}

-- Which frames a meter of `conform` takes, and by which numbers.

-- for all releases: those of the sender, each by its number among all of them, the later ones too. Refuses numbers
-- among the sender's own
abbrev pub FramesAreNumbered : Type 0
FramesAreNumbered = (sender n : ℕ) (releases : List Release)
    → metered_from sender n releases
    ≡ map (λ (numbered : ℕ × Release). metered_at numbered.0 numbered.1)
    (filter (λ (numbered : ℕ × Release). numbered.1.sender == sender) (enumerate_from n releases))
