use Rattle.std.specs.Prelude.{ℕ, ◌<◌, ◌^◌, IsTrue, List, All, Option, Some, None}
use Rattle.ats_num.specs.declared.time.Ps.{Ps}
use Rattle.ats_num.specs.Name.{is_name}
use Rattle.ats_network.specs.Network.{DeclaredNetwork, senders_of}
use Rattle.ats_group.specs.declared.verdict.Verdict.{Verdict}
use Rattle.ats_group.specs.declared.verdict.Verdict.TheVariants.{Eligible, Late, Size}
use Rattle.ats_trace.specs.Journey.{Leg, Travel, legs_in}
use Rattle.ats_trace.specs.HopRecord.{HopRecord}
use Rattle.ats_trace.specs.declared.journey.Ending.{Ending}
use Rattle.ats_trace.specs.declared.journey.Ending.TheVariants.{Sink, Discard}
use Rattle.ats_streams.specs.Stream.{DeclaredStream}
use Rattle.ats_network.specs.Sender.{Sender, stream_sender}
use Rattle.ats_network.specs.Listeners.{Listener, listeners_of}
use Rattle.ats_topology.specs.Topology.{DeclaredTopology}
use Rattle.ats_certificate.specs.Certificate.{bound_of_hop, bound_on}
use Rattle.ats_certificate.specs.declared.row.Row.{Row}
use Rattle.ats_replay.specs.declared.summary.Summary.{Summary}
use Rattle.ats_replay.specs.declared.totals.Totals.{Totals}

-- a number has at most 64 digits, which is more than any that the program holds
abbrev pub IsShort : ℕ → Type 0
IsShort n = n < 10 ^ 64

-- so has the time of a verdict
abbrev pub IsShortVerdict : Verdict → Type 0
IsShortVerdict (Eligible e) = IsShort e.0
IsShortVerdict (Late e) = IsShort e.0
IsShortVerdict Size = Unit {0}

-- and the start and the end of a transmission
abbrev pub IsShortSent : Option (Ps × Ps) → Type 0
IsShortSent None = Unit {0}
IsShortSent (Some times) = IsShort times.0.0 × IsShort times.1.0

-- each time that a hop record holds
pub record IsShortHop (hop : HopRecord) : Type 0 where
  pub arrival : IsShort hop.arrival.0
  pub verdict : IsShortVerdict hop.verdict
  pub sent : IsShortSent hop.sent

-- the time of an ending
abbrev pub IsShortEnding : Ending → Type 0
IsShortEnding (Sink at) = IsShort at.0
IsShortEnding Discard = Unit {0}

-- each time along a leg
pub record IsShortLeg (leg : Leg) : Type 0 where
  pub hops : All IsShortHop leg.hops
  pub ending : IsShortEnding leg.ending

-- each time of a journey has at most 64 digits
pub record HasShortTimes (journey : Travel) : Type 0 where
  pub release : IsShort journey.release.at.0
  pub legs : All IsShortLeg (legs_in journey)

-- the senders of a network have names
abbrev pub HasNames : DeclaredNetwork → Type 0
HasNames network = All (λ (s : Sender). IsTrue (is_name s.name)) (senders_of network)

-- the counts of some frames
pub record AreShortCounts (totals : Totals) : Type 0 where
  pub all_frames : IsShort totals.frames
  pub all_sunk : IsShort totals.sunk
  pub all_late : IsShort totals.late
  pub all_size : IsShort totals.size

-- each number of what came of a sender's frames for a listener
pub record HasShortNumbers (summary : Summary) : Type 0 where
  pub totals : AreShortCounts summary.totals
  pub worst : IsShort summary.worst.0

-- each of the sums that are given, if they are
abbrev pub AreShort : Option (List ℕ) → Type 0
AreShort None = Unit {0}
AreShort (Some sums) = All IsShort sums

-- the bounds of a stream along the leg of a listener by the rows of a certificate, and the sum along the route there
pub record HasShortLines (rows : List Row) (s : DeclaredStream) (listener : Listener) : Type 0 where
  pub bounds : All (λ port. IsShort (bound_of_hop rows (stream_sender s) port)) listener.leg
  pub sum : IsShort (bound_on rows s listener.route)

-- those of each listener
abbrev pub HasShortBounds : DeclaredTopology → List Row → DeclaredStream → Type 0
HasShortBounds topology rows s = All (HasShortLines rows s) (listeners_of topology s)
