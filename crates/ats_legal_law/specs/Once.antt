use Rattle.std.specs.Prelude.{ℕ, ◌≤◌, ◌==◌, List, All, count_by}
use Rattle.ats_network.specs.Network.{DeclaredNetwork, IsNetwork}
use Rattle.ats_trace.specs.Journey.{IsJourney, Travel}
use Rattle.ats_trace.specs.Projections.{Crossing, Handed, crossings_by, handed_by}

-- A frame is told of once at each port, however many listeners are behind it.

-- a frame crosses a port at most once, and the port hands it on at most once
pub record IsToldOnce (network : DeclaredNetwork) (run : List Travel) : Type 0 where
  pub crossed : (port frame : ℕ)
      → count_by (λ (c : Crossing). c.sent.frame == frame) (crossings_by network run port) ≤ 1
  pub handed : (port class frame : ℕ)
      → count_by (λ (h : Handed). h.crossing.sent.frame == frame) (handed_by network run port class) ≤ 1

-- so it is where each frame makes a journey: in each legal run, by whatever clocks, and however groups judge
abbrev pub FramesAreToldOnce : Type 0
FramesAreToldOnce = (network : DeclaredNetwork) (run : List Travel) → IsNetwork network → All (IsJourney network) run
    → IsToldOnce network run
