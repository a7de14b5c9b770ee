use Rattle.std.specs.Prelude.{◌≡◌, ◌↔◌, ◌⊎◌, ℕ, ◌-◌, ◌<◌, ◌≤◌, ◌==◌, List, filter, AllPairs, Contains}
use Rattle.ats_network.specs.Class.{class_at}
use Rattle.ats_network.specs.Network.{DeclaredNetwork}
use Rattle.ats_network.specs.Senders.{sender_at}
use Rattle.ats_trace.specs.Journey.{Travel}
use Rattle.ats_trace.specs.Stored.{leg_in}
use Rattle.ats_trace.specs.declared.journey.Ending.TheVariants.{Sink}
use Rattle.ats_trace.specs.declared.journey.Release.{Release}
use Rattle.ats_witness.specs.Burst.{IsBurst, IsBurstFor, burst_of}
use Rattle.ats_witness.specs.Delay.{ArrivedAfter, IsGreatestDelay}

-- Bursts and delays of any network and run, part by part.

-- a burst has of each sender its frames and no others, by time, and of one time by the senders' numbers. Refuses an
-- order of those of one time by their classes
pub record BurstsAreMeant : Type 0 where
  pub parts : (network : DeclaredNetwork) (port class : ℕ) (releases : List Release)
      → IsBurst network port class releases
      ↔ (((i : ℕ) → filter (λ (r : Release). r.sender == i) releases ≡ burst_of network port class i)
      × AllPairs (λ (x y : Release). (x.at.0 < y.at.0) ⊎ ((x.at.0 ≡ y.at.0) × (x.sender ≤ y.sender))) releases)
  pub of_stream : (network : DeclaredNetwork) (stream port : ℕ) (releases : List Release)
      → IsBurstFor network stream port releases
      ↔ IsBurst network port (class_at (sender_at network stream) port) releases

-- the greatest delay of a sender for a listener is one that a frame of it took that arrived there, and none of them
-- took longer
pub record DelaysAreMeant : Type 0 where
  pub greatest : (run : List Travel) (sender listener delay : ℕ) → IsGreatestDelay run sender listener delay
      ↔ ((journey : Travel) × ArrivedAfter run sender listener delay journey
      × ((took : ℕ) (other : Travel) → ArrivedAfter run sender listener took other → took ≤ delay))
  pub arrived : (run : List Travel) (sender listener took : ℕ) (journey : Travel)
      → ArrivedAfter run sender listener took journey
      ↔ (Contains run journey × (journey.release.sender ≡ sender)
      × ((at : ℕ) × ((leg_in journey listener).ending ≡ Sink (record { 0 = at }))
      × (took ≡ at - journey.release.at.0)))

pub record EachIsFound : Type 0 where
  pub bursts : BurstsAreMeant
  pub delays : DelaysAreMeant
