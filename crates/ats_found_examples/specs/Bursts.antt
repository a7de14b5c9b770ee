use Rattle.std.specs.Prelude.{ℕ, List, [], ◌∷◌, codes, get_or}
use Rattle.ats_network.specs.Network.{DeclaredNetwork, IsNetwork, declared_network}
use Rattle.ats_trace.specs.Journey.{Travel}
use Rattle.ats_trace.specs.Run.{HasReleases, IsRunBy}
use Rattle.ats_witness.specs.Burst.{IsBurstFor}
use Rattle.ats_witness.specs.Delay.{IsGreatestDelay}
use Rattle.ats_witness.specs.Found.{AreFound, FoundDelays, found_delays, greatest_wait}
use Rattle.ats_witness.specs.Last.{last_key}
use Rattle.ats_examples.specs.Networks.{flow, fork, stream}
use Rattle.ats_found_examples.specs.Later.{release}

-- Which burst is told: the one in whose run the delay is found.

-- the fork with a stream from s1 to s2 and a flow from s1 to s3, which has number 1: it is in the way at the port of
-- the station alone
abbrev pub turning : DeclaredNetwork
turning = declared_network fork.topology (stream (codes "a") (0 ∷ 2 ∷ []) ∷ []) (flow (codes "f") (0 ∷ 5 ∷ []) ∷ [])

-- a run of exactly the releases that are found, in which the stream's greatest delay for the listener is the delay at
-- the hop that is found
pub record AreOfDelay (network : DeclaredNetwork) (stream listener : ℕ) (found : FoundDelays) : Type 0 where
  pub run : List Travel
  pub by : IsRunBy (last_key stream) greatest_wait network run
  pub released : HasReleases found.releases run
  pub greatest : IsGreatestDelay run stream listener (get_or found.delays found.hop 0)

-- the greatest delay is at the first hop, where the flow's frame is ahead: the burst there is told, and not the one at
-- the last port, where the stream is alone. Of all that is found the releases are those of a run with the delay at the
-- hop
pub record BurstIsOfHop : Type 0 where
  pub rules : IsNetwork turning
  pub at_first : AreFound turning 0 0 (found_delays (39007999 ∷ 26672000 ∷ []) 0 (release 0 1 ∷ release 1 0 ∷ []))
  pub last : IsBurstFor turning 0 2 (release 1 0 ∷ [])
  pub not_of_last : ¬ AreFound turning 0 0 (found_delays (39007999 ∷ 26672000 ∷ []) 0 (release 1 0 ∷ []))
  pub each : (network : DeclaredNetwork) (stream listener : ℕ) (found : FoundDelays)
      → AreFound network stream listener found → AreOfDelay network stream listener found
