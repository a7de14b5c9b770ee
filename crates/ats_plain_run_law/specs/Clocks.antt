use Rattle.std.specs.Prelude.{◌≡◌, ◌↔◌, ℕ}
use Rattle.ats_network.specs.Network.{DeclaredNetwork}
use Rattle.ats_trace.specs.Clocks.{WasToldAtArrival, WasToldAtRelease}
use Rattle.ats_trace.specs.Projections.{Handed}
use Rattle.ats_trace.specs.Talker.{talker_of}
use Rattle.ats_trace.specs.declared.journey.Release.{Release}

-- a node's own frame was told what the clock of that node showed at its release, and one that a node passes on, as it
-- does those of flows, what its clock showed at the arrival
pub record ToldTimesAreTraced : Type 0 where
  pub released : (clocks told : ℕ → ℕ → ℕ) (network : DeclaredNetwork) (frame : ℕ) (r : Release)
      → WasToldAtRelease clocks told network frame r
      ↔ (told (talker_of network r.sender) frame ≡ clocks (talker_of network r.sender) r.at.0)
  pub passed : (shows told : ℕ → ℕ) (h : Handed) → WasToldAtArrival shows told h
      ↔ (told h.crossing.sent.frame ≡ shows h.crossing.arrival)
