use Rattle.std.specs.Prelude.{ℕ, ◌+◌, ◌*◌, ◌<◌, ◌≤◌, length, All, Option, Some, None}
use Rattle.ats_num.specs.declared.time.TheConstants.{PS_PER_SECOND}
use Rattle.ats_num.specs.declared.time.Ps.{Ps}
use Rattle.ats_group.specs.Judge.{OnEligible}
use Rattle.ats_topology.specs.Port.{port_at}
use Rattle.ats_network.specs.Bridges.{IsBridgeAt}
use Rattle.ats_network.specs.Class.{class_at}
use Rattle.ats_network.specs.Network.{DeclaredNetwork}
use Rattle.ats_network.specs.Senders.{sender_at}
use Rattle.ats_streams.specs.declared.traffic.Declared.{Declared}
use Rattle.ats_trace.specs.Journey.{Leg, Travel}
use Rattle.ats_trace.specs.Eligibility.{declared_by, scheduled_by}
use Rattle.ats_trace.specs.HopRecord.{HopRecord}
use Rattle.ats_trace.specs.declared.journey.Ending.{Ending}
use Rattle.ats_trace.specs.declared.journey.Ending.TheVariants.{Sink, Discard}

-- When all of a run is over, and when so long ago that each bucket is full again.

abbrev pub AreTimesBy : ℕ → Option (Ps × Ps) → Type 0
AreTimesBy over (Some times) = times.1.0 ≤ over
AreTimesBy over None = Unit {0}

-- nothing that a frame's record at a port tells is after this time: not its arrival, not the time from which it was
-- eligible, and not the end of its transmission
pub record IsRecordBy (over : ℕ) (hop : HopRecord) : Type 0 where
  pub arrival : hop.arrival.0 ≤ over
  pub eligible : OnEligible hop.verdict (λ e. e ≤ over)
  pub sent : AreTimesBy over hop.sent

abbrev pub IsEndingBy : ℕ → Ending → Type 0
IsEndingBy over (Sink at) = at.0 ≤ over
IsEndingBy over Discard = Unit {0}

-- nothing that is told of a frame along a leg is after this time
pub record IsLegBy (over : ℕ) (leg : Leg) : Type 0 where
  pub hops : All (IsRecordBy over) leg.hops
  pub ending : IsEndingBy over leg.ending

-- a frame's journey is over by this time, along each leg
pub record IsOverBy (over : ℕ) (j : Travel) : Type 0 where
  pub released : j.release.at.0 ≤ over
  pub hops : All (IsRecordBy over) j.hops
  pub ending : IsEndingBy over j.ending
  pub copies : All (IsLegBy over) j.copies

-- what was empty at one time is full at the other: the rate has given the burst by then
abbrev pub FillsBy : ℕ → ℕ → Declared → Type 0
FillsBy over by declared = PS_PER_SECOND * declared.burst_bits + over * declared.rate ≤ by * declared.rate

-- a stream has the port, which leads to a bridge: there its scheduler is
pub record IsScheduledBehind (network : DeclaredNetwork) (stream port : ℕ) : Type 0 where
  pub exists : stream < length network.streams
  pub class : 1 ≤ class_at (sender_at network stream) port
  pub bridge : IsBridgeAt network.topology (port_at network.topology.ports port).to

-- a network rests from one time to another, which is later: the bucket of each stream fills, and that of each of its
-- schedulers
pub record RestsUntil (network : DeclaredNetwork) (over by : ℕ) : Type 0 where
  pub after : over < by
  pub filled : (i : ℕ) → i < length network.streams → FillsBy over by (declared_by network i)
  pub scheduled : (i port : ℕ) → IsScheduledBehind network i port → FillsBy over by (scheduled_by network port i)
