-- Which frames a meter takes, by induction over the releases.
use Rattle.std.proofs.Common.{◌≡◌, ℕ, Bool, true, false, List, [], ◌∷◌, map, cond, refl, ap}
use Rattle.std.specs.Prelude.{◌+◌, ◌==◌, filter, if◌then◌else◌}
use Rattle.std.specs.List.{enumerate_from}
use Rattle.ats_conform.specs.Releases.{metered_at, metered_from}
use Rattle.ats_conform.specs.declared.meter.Metered.{Metered}
use Rattle.ats_trace.specs.declared.journey.Release.{Release}
use Rattle.ats_edge_examples.specs.Metered.{FramesAreNumbered}

abbrev taken : ℕ × Release → Metered
taken numbered = metered_at numbered.0 numbered.1

-- a frame that is of the sender is taken in front of the later ones; one of another is not
by_test : (own : Bool) (numbered : ℕ × Release) (later : List Metered) (rest : List (ℕ × Release))
    → later ≡ map taken rest
    → (if own then taken numbered ∷ later else later) ≡ map taken (cond own (numbered ∷ rest) rest)
by_test true numbered later rest same = ap (λ (l : List Metered). taken numbered ∷ l) same
by_test false numbered later rest same = same

pub frames_are_numbered : FramesAreNumbered
frames_are_numbered sender n [] = refl
frames_are_numbered sender n (r ∷ releases) =
    by_test (r.sender == sender) (n, r) (metered_from sender (n + 1) releases)
    (filter (λ (numbered : ℕ × Release). numbered.1.sender == sender) (enumerate_from (n + 1) releases))
    (frames_are_numbered sender (n + 1) releases)
