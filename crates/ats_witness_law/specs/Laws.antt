use Rattle.std.specs.Prelude.{◌≡◌, ◌≢◌, ℕ, ◌+◌, ◌<◌, ◌≤◌, ◌^◌, ◌==◌, IsTrue, List, [], Contains, Some, slice_get}
use Rattle.std.specs.List.{before_first}
use Rattle.std.specs.Option.{option_map_or}
use Rattle.ats_streams.specs.Stream.{DeclaredStream}
use Rattle.ats_network.specs.Sender.{Sender}
use Rattle.ats_network.specs.Class.{port_before}
use Rattle.ats_network.specs.Network.{DeclaredNetwork, IsNetwork}
use Rattle.ats_network.specs.Rates.{ports_to}
use Rattle.ats_network.specs.Senders.{IsSender}
use Rattle.ats_certificate.specs.Certificate.{Holds}
use Rattle.ats_certificate.specs.PortSums.{uses}
use Rattle.ats_certificate.specs.declared.row.Row.{Row}
use Rattle.ats_group.specs.Judge.{ats_judge, bucket_rule}
use Rattle.ats_soundness_law.specs.Runs.{Runs, ats_runs, in_true_time}
use Rattle.ats_soundness_law.specs.Sound.{IsSound}
use Rattle.ats_trace.specs.Clocks.{IsLegal}
use Rattle.ats_trace.specs.Journey.{Travel}
use Rattle.ats_trace.specs.Run.{IsIdeal, releases_of}
use Rattle.ats_trace.specs.Stored.{leg_in}
use Rattle.ats_trace.specs.Talker.{KeepsBuckets}
use Rattle.ats_trace.specs.declared.journey.Ending.TheVariants.{Sink}
use Rattle.ats_trace.specs.declared.journey.Release.{Release}
use Rattle.ats_witness.specs.Burst.{IsBurst, time_over, travel_to}
use Rattle.ats_witness.specs.Delay.{ArrivedAfter}
use Rattle.ats_witness.specs.Found.{IsFoundAt, bound_for}
use Rattle.ats_witness.specs.Last.{last_key}

-- the keys of all other senders are below those of the last one
abbrev pub LastGoesLast : Type 0
LastGoesLast = (last sender frame next : ℕ) → sender ≢ last → frame < 2 ^ 32
    → last_key last sender frame < last_key last last next

-- the travel to a port goes over the port before it on a sender's routes, where there is one
abbrev pub TravelGoesOverThePortBefore : Type 0
TravelGoesOverThePortBefore = (network : DeclaredNetwork) (s : Sender) (port : ℕ) → IsSender network.topology s
    → IsTrue (uses port s)
    → travel_to network port s
    ≡ option_map_or (λ before. travel_to network before s + time_over network s.max_octets before)
    (port_before s port) 0

-- where a sender has one listener, the ports by which its frames come to a port are those before it on its path
abbrev pub OneListenerComesByItsPath : Type 0
OneListenerComesByItsPath = (s : Sender) (port : ℕ) → s.branches ≡ [] → IsTrue (uses port s)
    → ports_to s port ≡ before_first (λ p. p == port) s.ports

-- two lists that are the burst at a port for a class are the same
abbrev pub BurstIsOne : Type 0
BurstIsOne = (network : DeclaredNetwork) (port class : ℕ) (one other : List Release)
    → IsBurst network port class one → IsBurst network port class other → one ≡ other

-- by a burst every node keeps its buckets
abbrev pub BurstKeepsBuckets : Type 0
BurstKeepsBuckets = (network : DeclaredNetwork) (port class : ℕ) (releases : List Release) (node : ℕ)
    → IsNetwork network → IsBurst network port class releases → KeepsBuckets network releases node

-- a frame reaches the listener with a number so long after its release as it takes
abbrev pub ArrivesExactly : Travel → ℕ → ℕ → Type 0
ArrivesExactly journey listener took =
    (leg_in journey listener).ending ≡ Sink (record { 0 = journey.release.at.0 + took })

-- each frame of a legal run that reaches a listener does
abbrev pub DelaysAreExact : Type 0
DelaysAreExact = (network : DeclaredNetwork) (run : List Travel) (sender listener took : ℕ) (journey : Travel)
    → IsNetwork network → IsLegal network run → ArrivedAfter run sender listener took journey
    → ArrivesExactly journey listener took

-- a delay of a stream for a listener can happen in such runs: in a legal one every node keeps what is asked of it, and
-- there is a frame of the stream in it that takes just so long to this listener
pub record CanHappenIn (runs : Runs) (network : DeclaredNetwork) (stream listener delay : ℕ) : Type 0 where
  pub run : List Travel
  pub legal : runs.legal network run
  pub keeps : (node : ℕ) → runs.keeps network run legal node
  pub journey : Travel
  pub there : Contains run journey
  pub sent : journey.release.sender ≡ stream
  pub took : ArrivesExactly journey listener delay

-- it can happen where all nodes read true time, and keep their buckets
abbrev pub CanHappen : DeclaredNetwork → ℕ → ℕ → ℕ → Type 0
CanHappen network stream listener delay =
    CanHappenIn (in_true_time ats_judge bucket_rule) network stream listener delay

abbrev pub FoundDelaysHappen : Type 0
FoundDelaysHappen = (network : DeclaredNetwork) (stream listener port delay : ℕ) → IsNetwork network
    → IsFoundAt network stream listener port delay → CanHappen network stream listener delay

-- it does so in a run by true time in which every node keeps its buckets. Refuses runs of which less is asked than that
abbrev pub HappensLawfully : Type 0
HappensLawfully = (network : DeclaredNetwork) (stream listener delay : ℕ)
    → (can : CanHappen network stream listener delay)
    → IsIdeal network can.run × ((node : ℕ) → KeepsBuckets network (releases_of can.run) node)

-- so it can where each bridge goes by its own clock
abbrev pub HappensByClocks : Type 0
HappensByClocks = (network : DeclaredNetwork) (stream listener delay : ℕ) → IsNetwork network
    → CanHappen network stream listener delay → CanHappenIn ats_runs network stream listener delay

-- bounds that are sound give a stream along the route to a listener together at least each delay for it that can
-- happen, by whatever clocks
abbrev pub HappensWithin : Type 0
HappensWithin = (network : DeclaredNetwork) (rows : List Row) (place listener delay : ℕ) (stream : DeclaredStream)
    → IsSound network rows → slice_get network.streams place ≡ Some stream
    → CanHappenIn ats_runs network place listener delay → delay ≤ bound_for rows stream listener

-- and so each that is found
abbrev pub NoSoundBoundIsLess : Type 0
NoSoundBoundIsLess = (network : DeclaredNetwork) (rows : List Row) (place listener port delay : ℕ)
    (stream : DeclaredStream) → IsNetwork network → IsSound network rows
    → slice_get network.streams place ≡ Some stream → IsFoundAt network place listener port delay
    → delay ≤ bound_for rows stream listener

-- those of a certificate that holds are sound
abbrev pub FoundIsWithin : Type 0
FoundIsWithin = (network : DeclaredNetwork) (rows : List Row) (place listener port delay : ℕ)
    (stream : DeclaredStream) → IsNetwork network → Holds network rows
    → slice_get network.streams place ≡ Some stream → IsFoundAt network place listener port delay
    → delay ≤ bound_for rows stream listener
