-- What was found in a run of a burst, whichever port the burst is for: what the clauses of private functions speak of.
-- What is found of a stream at a port, `Found` alone says.
use Rattle.std.specs.Prelude.{◌≡◌, ℕ, List}
use Rattle.ats_network.specs.Network.{DeclaredNetwork}
use Rattle.ats_trace.specs.Journey.{Travel}
use Rattle.ats_trace.specs.Run.{IsRunBy, releases_of}
use Rattle.ats_trace.specs.declared.journey.Release.{Release}
use Rattle.ats_witness.specs.Delay.{IsGreatestDelay}
use Rattle.ats_witness.specs.Found.{greatest_wait}
use Rattle.ats_witness.specs.Last.{last_key}

-- the greatest delay of a stream for a listener in a run of these releases, in which each port sends the stream's
-- frames last of those that tie, and behind each port each frame arrives as late as it may
pub record IsPlayed (network : DeclaredNetwork) (stream listener : ℕ) (releases : List Release) (delay : ℕ)
    : Type 0 where
  pub run : List Travel
  pub by : IsRunBy (last_key stream) greatest_wait network run
  pub released : releases_of run ≡ releases
  pub greatest : IsGreatestDelay run stream listener delay
