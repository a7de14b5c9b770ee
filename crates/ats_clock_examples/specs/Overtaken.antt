use Rattle.std.specs.Prelude.{◌≡◌, ℕ, ◌+◌, ◌-◌, List, [], ◌∷◌, ◌++◌, codes}
use Rattle.ats_clock.specs.Clock.{KeepsClock, declared_clock}
use Rattle.ats_clock_law.specs.Examples.{ticking}
use Rattle.ats_topology.specs.Topology.{topology_of}
use Rattle.ats_topology.specs.declared.node.Node.{Node}
use Rattle.ats_network.specs.Network.{DeclaredNetwork, IsNetwork, declared_network}
use Rattle.ats_trace.specs.Journey.{Travel}
use Rattle.ats_trace.specs.Parts.{chosen}
use Rattle.ats_trace.specs.Run.{IsIdeal}
use Rattle.ats_examples.specs.Deviations.{BreaksAlone}
use Rattle.ats_examples.specs.Networks.{flow, fork_links, station, stream}
use Rattle.ats_examples.specs.Runs.{hop, sunk}
use Rattle.ats_clock_examples.specs.Clocked.{IsLegalWith, true_time}
use Rattle.ats_clock_examples.specs.Needs.{clocked_bridge}

-- Frames that a bridge sends in the order of the times that its clock told them, and not of those at which they became
-- eligible.

-- a bridge whose clock never deviates and ticks every 8 ns
abbrev pub ticking_bridge : List ℕ → Node
ticking_bridge name = clocked_bridge name 1000000 0 8000

-- the fork over it, with a stream to s2 from s1, from s3 and from the bridge, which have numbers 0 to 2, and a flow
-- there from s1 and from s3, numbers 3 and 4
abbrev pub ticking_fork_nodes : List Node
ticking_fork_nodes =
    station (codes "s1") ∷ station (codes "s2") ∷ station (codes "s3") ∷ ticking_bridge (codes "b1") ∷ []

abbrev pub ticking_fork : DeclaredNetwork
ticking_fork = declared_network (topology_of ticking_fork_nodes fork_links)
    (stream (codes "a") (0 ∷ 2 ∷ []) ∷ stream (codes "b") (4 ∷ 2 ∷ []) ∷ stream (codes "c") (2 ∷ []) ∷ [])
    (flow (codes "f") (0 ∷ 2 ∷ []) ∷ flow (codes "g") (4 ∷ 2 ∷ []) ∷ [])

-- its bridge, the last node, goes by the clock that ticks
abbrev pub bridge_ticks : List (ℕ → ℕ)
bridge_ticks = true_time ∷ true_time ∷ true_time ∷ ticking ∷ []

-- two frames of a sender at s1, of which the second comes to the bridge at 3356000, while it sends the first. The
-- bridge starts it at this time
abbrev pub from_first : ℕ → ℕ → List Travel
from_first sender start =
    sunk 0 sender 128 (hop 0 0 0 1184000 ∷ hop 2684000 2684000 2684000 3868000 ∷ []) 4368000
    ∷ sunk 1 sender 64 (hop 1 1 1184000 1856000 ∷ hop 3356000 3356000 start (start + 672000) ∷ []) (start + 1172000)
    ∷ []

-- and a frame of one at s3, which comes to the bridge at this time, and is started there at that
abbrev pub two_wait : ℕ → ℕ → ℕ → ℕ → ℕ → List Travel
two_wait sender other start came other_start =
    from_first sender start ++ sunk (came - 2172000) other 64
    (hop (came - 2172000) (came - 2172000) (came - 2172000) (came - 1500000)
    ∷ hop came came other_start (other_start + 672000)
    ∷ [])
    (other_start + 1172000) ∷ []

-- that of s3 comes 3 ps after the other, and goes first
abbrev pub overtaken : List Travel
overtaken = two_wait 0 1 4540000 3356003 3868000

-- the clock shows the same when they come, and so told both the same time: the run is legal, as is the one in which
-- they go in turn. By true time they have to go in turn: there the run breaks the choice at a port, and nothing else.
-- Where the frame of s3 comes 4 ns after the other, the clock has ticked between them, and it may not go first
pub record ToldTimesDecide : Type 0 where
  pub network : IsNetwork ticking_fork
  pub keeps_clock : KeepsClock (declared_clock 0 8000) ticking
  pub shown : ticking 3356000 ≡ 3352000
  pub shown_again : ticking 3356003 ≡ 3352000
  pub legal : IsLegalWith bridge_ticks ticking_fork overtaken
  pub in_turn : IsLegalWith bridge_ticks ticking_fork (two_wait 0 1 3868000 3356003 4540000)
  pub not_ideal : ¬ IsIdeal ticking_fork overtaken
  pub breaks : BreaksAlone chosen ticking_fork overtaken
  pub shown_next : ticking 3360000 ≡ 3360000
  pub next_in_turn : IsLegalWith bridge_ticks ticking_fork (two_wait 0 1 3868000 3360000 4540000)
  pub not_next : ¬ IsLegalWith bridge_ticks ticking_fork (two_wait 0 1 4540000 3360000 3868000)

-- the same of the flows
abbrev pub flow_overtaken : List Travel
flow_overtaken = two_wait 3 4 4540000 3356003 3868000

-- and of a frame that the bridge releases itself at this time, and starts at that
abbrev pub own_waits : ℕ → ℕ → ℕ → List Travel
own_waits start at own_start =
    from_first 0 start ++ sunk at 2 64 (hop at at own_start (own_start + 672000) ∷ []) (own_start + 1172000) ∷ []

abbrev pub overtaken_by_own : List Travel
overtaken_by_own = own_waits 4540000 3356003 3868000

-- a frame of a flow is told what the clock shows at its arrival, and one of the bridge what it shows at its release: so
-- these overtake in a tick, and only then
pub record AllAreTold : Type 0 where
  pub flow : IsLegalWith bridge_ticks ticking_fork flow_overtaken
  pub flow_breaks : BreaksAlone chosen ticking_fork flow_overtaken
  pub flow_not_next : ¬ IsLegalWith bridge_ticks ticking_fork (two_wait 3 4 4540000 3360000 3868000)
  pub own : IsLegalWith bridge_ticks ticking_fork overtaken_by_own
  pub own_breaks : BreaksAlone chosen ticking_fork overtaken_by_own
  pub own_not_next : ¬ IsLegalWith bridge_ticks ticking_fork (own_waits 4540000 3360000 3868000)
