use Rattle.std.specs.Prelude.{◌↔◌, ℕ, ◌+◌, ◌<◌, IsTrue, List, length, All}
use Rattle.ats_topology.specs.Port.{port_at}
use Rattle.ats_network.specs.Network.{DeclaredNetwork, IsNetwork}
use Rattle.ats_network.specs.Bridges.{IsBridgeAt}
use Rattle.ats_certificate.specs.PortSums.{is_used}
use Rattle.ats_certificate.specs.Certificate.{RowHolds, Holds}
use Rattle.ats_certificate.specs.declared.row.Row.{Row}
use Rattle.ats_port_law.specs.PortLaw.{IsOfferedBy}
use Rattle.ats_port_rule.specs.Transmission.{Transmission}
use Rattle.ats_bucket.specs.Conforming.{Frame}
use Rattle.ats_streams.specs.declared.traffic.Declared.{Declared}
use Rattle.ats_group.specs.Judge.{Judge, ats_judge, bucket_rule}
use Rattle.ats_group_law.specs.Regulator.{IsRegulator, IsRule}
use Rattle.ats_trace.specs.Clocks.{IsLegal}
use Rattle.ats_trace.specs.Journey.{Travel}
use Rattle.ats_trace.specs.Projections.{Handed, sent_by, handed_by}
use Rattle.ats_soundness_law.specs.Rules.{Rule, Keeps}
use Rattle.ats_soundness_law.specs.Runs.{Runs, ats_runs, in_true_time}
use Rattle.ats_soundness_law.specs.Sound.{IsEligibleBy, AreServed, AreContained, IsSoundBy, IsSound}
use Rattle.ats_soundness_law.specs.Sound.{BeginAtStations, IsSoundFromStations}
use Rattle.ats_soundness_law.specs.TrueTime.{KeepsBucketsIn}

-- what a port is asked to send where the node that it leaves keeps its buckets by its clock, a station or a bridge:
-- frames of declared sizes, and those of each stream conform in true time to what the port sees of it; for each frame
-- there is the node's own, or was let through by the node
abbrev pub PortIsOffered : Type 0
PortIsOffered = (network : DeclaredNetwork) (run : List Travel) (port : ℕ) → IsNetwork network
    → (legal : IsLegal network run) → port < length network.topology.ports
    → KeepsBucketsIn network run legal (port_at network.topology.ports port).from
    → IsOfferedBy (λ (x : Transmission). legal.told (port_at network.topology.ports port).from x.frame) network port
    (sent_by network run port)

-- a frame is eligible behind the port, within the row's bound of its eligibility at the port
abbrev pub IsHandedOn : Row → Handed → Type 0
IsHandedOn row h = IsEligibleBy (h.crossing.sent.eligible + row.bound) (λ e. Unit {0}) h.verdict

-- shaping is free: where a row holds whose port and class some stream uses, and the port leads to a bridge and leaves a
-- node that keeps its buckets, the bridge makes each frame of the row's class eligible within the row's bound
abbrev pub ShapingForFree : Type 0
ShapingForFree = (network : DeclaredNetwork) (run : List Travel) (row : Row) → IsNetwork network
    → (legal : IsLegal network run) → IsTrue (is_used network row.port row.class)
    → IsBridgeAt network.topology (port_at network.topology.ports row.port).to → RowHolds network row
    → KeepsBucketsIn network run legal (port_at network.topology.ports row.port).from
    → All (IsHandedOn row) (handed_by network run row.port row.class)

-- each frame of a stream whose talker keeps its buckets is served at each listener such that the bridges on the way
-- there keep theirs, by the rows of a certificate that holds
abbrev pub PathLaw : Type 0
PathLaw = (network : DeclaredNetwork) (rows : List Row) → IsNetwork network → Holds network rows
    → AreServed ats_runs network rows

-- each frame of any stream is contained by them, whatever its talker does, on its way to each listener such that the
-- bridges that ports of the route but the first leave keep their buckets
abbrev pub Containment : Type 0
Containment = (network : DeclaredNetwork) (rows : List Row) → IsNetwork network → Holds network rows
    → AreContained ats_runs network rows

-- by true time, where groups regulate by a rule, and talkers keep it, bounds that keep each of the ten rules are sound
abbrev pub SoundByRule : (Declared → List Frame → Type 0) → Type 0
SoundByRule rule = (judge : Judge) (network : DeclaredNetwork) (rows : List Row) → IsRule rule → IsRegulator judge rule
    → IsNetwork network → ((ten : Rule) → Keeps ten network rows) → IsSoundBy (in_true_time judge rule) network rows

-- so where they regulate by token buckets
abbrev pub SoundByRules : Type 0
SoundByRules = (judge : Judge) (network : DeclaredNetwork) (rows : List Row) → IsRegulator judge bucket_rule
    → IsNetwork network
    → ((rule : Rule) → Keeps rule network rows) → IsSoundBy (in_true_time judge bucket_rule) network rows

-- so where the groups are those of Asynchronous Traffic Shaping, each by the clock of its bridge
abbrev pub SoundByClocks : Type 0
SoundByClocks = (network : DeclaredNetwork) (rows : List Row) → IsNetwork network
    → ((rule : Rule) → Keeps rule network rows) → IsSound network rows

-- and where a certificate holds
abbrev pub CertificateIsSound : Type 0
CertificateIsSound = (network : DeclaredNetwork) (rows : List Row) → IsNetwork network → Holds network rows
    → IsSound network rows

-- bounds that are sound by clocks that differ are sound in runs in which all nodes read true time
abbrev pub SoundInTrueTime : Type 0
SoundInTrueTime = (network : DeclaredNetwork) (rows : List Row) → IsNetwork network → IsSound network rows
    → IsSoundBy (in_true_time ats_judge bucket_rule) network rows

-- where no bridge has frames of its own, sound bounds promise what they do where nothing is asked of bridges
abbrev pub StationsPromise : Runs → Type 0
StationsPromise runs = (network : DeclaredNetwork) (rows : List Row) → BeginAtStations network
    → IsSoundBy runs network rows ↔ IsSoundFromStations runs network rows

-- so by true time, whichever the judge, and by Asynchronous Traffic Shaping
pub record StationsPromiseAll (rule : Declared → List Frame → Type 0) : Type 0 where
  pub by_rule : (judge : Judge) → StationsPromise (in_true_time judge rule)
  pub by_buckets : StationsPromise ats_runs
