use Rattle.std.specs.Prelude.{ℕ, ◌+◌, List, [], ◌∷◌}
use Rattle.ats_trace.specs.Journey.{Travel}
use Rattle.ats_trace.specs.declared.journey.Release.{Release}
use Rattle.ats_examples.specs.Runs.{hop, sunk}

-- Runs over one bridge of the stream of `line_of_bursts`, whose burst covers two frames of 1522 octets.

-- two such frames: the first at 0 ps, and the second at this time, which the bridge makes eligible at that one. Each is
-- sent at once
abbrev pub two_frames : ℕ → ℕ → List Travel
two_frames at eligible =
    sunk 0 0 1522 (hop 0 0 0 12336000 ∷ hop 13836000 13836000 13836000 26172000 ∷ []) 26672000
    ∷ sunk at 0 1522
    (hop at at at (at + 12336000) ∷ hop (at + 13836000) eligible eligible (eligible + 12336000) ∷ [])
    (eligible + 12836000)
    ∷ []

-- the rate gives the bits of the first in 123360000 ps, and so the second is eligible when it comes to the bridge
abbrev pub spaced : List Travel
spaced = two_frames 123360000 137196000

-- 1 ps sooner it has to wait there for 1 ps
abbrev pub too_soon : List Travel
too_soon = two_frames 123359999 137196000

-- releases on `line_and_flow`: two frames of the flow, which has number 1, and one of the stream, all at once
abbrev pub two_of_flow : List Release
two_of_flow =
    record { at = record { 0 = 0 }; sender = 1; octets = 1522 }
    ∷ record { at = record { 0 = 0 }; sender = 1; octets = 1522 }
    ∷ record { at = record { 0 = 0 }; sender = 0; octets = 1522 }
    ∷ []
