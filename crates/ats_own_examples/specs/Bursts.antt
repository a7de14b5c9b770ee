use Rattle.std.specs.Prelude.{ℕ, List, [], ◌∷◌}
use Rattle.ats_trace.specs.Journey.{Travel}
use Rattle.ats_trace.specs.declared.journey.Release.{Release}
use Rattle.ats_witness.specs.Burst.{IsBurstFor}
use Rattle.ats_witness.specs.Found.{AreFound, FoundDelays, found_delays}
use Rattle.ats_examples.specs.OwnFrames.{own}
use Rattle.ats_examples.specs.Runs.{hop, sunk}
use Rattle.ats_tree_examples.specs.Networks.{from_bridge}
use Rattle.ats_tree_examples.specs.Runs.{copied, copy}
use Rattle.ats_own_examples.specs.Networks.{local}

-- Bursts and delays, where frames begin or end at bridges.

-- the release of a sender's frame of so many octets
abbrev pub sent : ℕ → ℕ → ℕ → Release
sent at sender octets = record { at = record { 0 = at }; sender = sender; octets = octets }

-- the bridge's frames are in the burst of others at its port, and are released when those come to the bridge: a
-- picosecond earlier, where they are of a lower class or a flow's. Frames that end at the bridge are in the burst at
-- the port before, and in none behind it
pub record BurstsMeetAtBridges : Type 0 where
  pub of_other : IsBurstFor own 0 2 (sent 1 0 1522 ∷ sent 13836001 1 64 ∷ [])
  pub of_bridge : IsBurstFor own 1 2 (sent 0 0 1522 ∷ sent 13836001 1 64 ∷ [])
  pub of_other_before : IsBurstFor own 0 0 (sent 1 0 1522 ∷ sent 1 2 64 ∷ [])
  pub of_ending : IsBurstFor own 2 0 (sent 0 0 1522 ∷ sent 1 2 64 ∷ [])
  pub beside_flow : IsBurstFor local 3 2 (sent 0 0 1522 ∷ sent 13836000 7 320 ∷ sent 13836001 3 90 ∷ [])
  pub of_other_beside_flow : IsBurstFor local 0 2 (sent 1 0 1522 ∷ sent 13836000 7 320 ∷ sent 13836001 3 90 ∷ [])
  pub ending_beside_flow : IsBurstFor local 1 0 (sent 0 0 1522 ∷ sent 0 5 320 ∷ sent 1 1 90 ∷ [])

-- in the run of the burst at the bridge's port the bridge's frame waits for all of the other's, and goes before that of
-- the flow
abbrev pub behind_other : List Travel
behind_other =
    sunk 0 0 1522 (hop 0 0 0 12336000 ∷ hop 13836000 13836000 13836000 26172000 ∷ []) 26672000
    ∷ sunk 13836000 7 320 (hop 13836000 13836000 27052000 29772000 ∷ []) 30272000
    ∷ sunk 13836001 3 90 (hop 13836001 13836001 26172000 27052000 ∷ []) 27552000
    ∷ []

-- a frame that the bridge sends to its three listeners, and that nothing delays
abbrev pub alone_from_bridge : List Travel
alone_from_bridge =
    copied (sunk 1 0 1522 (hop 1 1 1 12336001 ∷ []) 12836001)
    (copy (hop 1 1 1 12336001 ∷ hop 13836001 13836001 13836001 26172001 ∷ []) 26672001
    ∷ copy (hop 1 1 1 12336001 ∷ []) 13836001
    ∷ [])
    ∷ []

-- what is found of a stream from a bridge beside others, and, of one that is alone, for each of its three listeners
abbrev pub found_beside : FoundDelays
found_beside = found_delays (13715999 ∷ []) 0 (sent 0 0 1522 ∷ sent 13836000 7 320 ∷ sent 13836001 3 90 ∷ [])

abbrev pub found_first : FoundDelays
found_first = found_delays (12836000 ∷ []) 0 (sent 1 0 1522 ∷ [])

abbrev pub found_second : FoundDelays
found_second = found_delays (26672000 ∷ 26672000 ∷ []) 0 (sent 1 0 1522 ∷ [])

abbrev pub found_at_bridge : FoundDelays
found_at_bridge = found_delays (13836000 ∷ []) 0 (sent 1 0 1522 ∷ [])

-- the delays found are these: at each port of the route, also for a listener that is a bridge
pub record DelaysAreFoundAtBridges : Type 0 where
  pub beside : AreFound local 3 0 found_beside
  pub first : AreFound from_bridge 0 0 found_first
  pub second : AreFound from_bridge 0 1 found_second
  pub at_bridge : AreFound from_bridge 0 2 found_at_bridge

pub record BurstsAreWorked : Type 0 where
  pub bursts : BurstsMeetAtBridges
  pub delays : DelaysAreFoundAtBridges
