use Rattle.std.specs.Prelude.{◌≡◌, ℕ, ◌+◌, List, Contains}
use Rattle.ats_network.specs.Network.{DeclaredNetwork}
use Rattle.ats_trace.specs.Journey.{Travel}
use Rattle.ats_trace.specs.Run.{IsIdeal, releases_of}
use Rattle.ats_trace.specs.Stored.{leg_in}
use Rattle.ats_trace.specs.Talker.{KeepsBuckets}
use Rattle.ats_trace.specs.declared.journey.Ending.TheVariants.{Sink}
use Rattle.ats_witness_law.specs.Laws.{CanHappen}
use Rattle.ats_examples.specs.Networks.{line}

-- What it comes to that a delay can happen, in the words of runs alone.

-- a run goes by true time, and every node keeps its buckets in it; this frame of the stream is in it, and arrives at
-- the listener so long after its release
pub record IsShownBy (network : DeclaredNetwork) (stream listener delay : ℕ) (run : List Travel) (journey : Travel)
    : Type 0 where
  pub legal : IsIdeal network run
  pub keeps : (station : ℕ) → KeepsBuckets network (releases_of run) station
  pub there : Contains run journey
  pub sent : journey.release.sender ≡ stream
  pub arrives : (leg_in journey listener).ending ≡ Sink (record { 0 = journey.release.at.0 + delay })

-- what can happen is shown so
abbrev pub HappeningIsShown : Type 0
HappeningIsShown = (network : DeclaredNetwork) (stream listener delay : ℕ)
    → (can : CanHappen network stream listener delay)
    → IsShownBy network stream listener delay can.run can.journey

-- and all that is shown so can happen, whatever the run's releases are
abbrev pub ShownDelaysHappen : Type 0
ShownDelaysHappen = (network : DeclaredNetwork) (stream listener delay : ℕ) (run : List Travel) (journey : Travel)
    → IsShownBy network stream listener delay run journey → CanHappen network stream listener delay

-- what can happen is what runs show. So a delay can happen that no burst shows: that of a frame of 64 octets, where
-- those of bursts are the longest. And of a stream and for a listener that a network does not have nothing happens
pub record HappeningIsMeant : Type 0 where
  pub shown : HappeningIsShown
  pub all_shown : ShownDelaysHappen
  pub of_short_frame : CanHappen line 0 0 3344000
  pub no_stream : (delay : ℕ) → ¬ CanHappen line 1 0 delay
  pub no_listener : (delay : ℕ) → ¬ CanHappen line 0 1 delay
