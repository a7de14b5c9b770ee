use Rattle.std.specs.Prelude.{◌≡◌, ℕ, ◌+◌, ◌<◌, ◌≤◌, ◌↔◌, List, [], ◌∷◌, length, map, All, Option, Some, None}
use Rattle.std.specs.List.{AllZip}
use Rattle.std.specs.List.Sorted.{IsNonDecreasing}
use Rattle.ats_num.specs.declared.time.Ps.{Ps}
use Rattle.ats_num.specs.Wire.{IsFrameSize}
use Rattle.ats_topology.specs.Port.{port_at}
use Rattle.ats_topology.specs.declared.port.Port.{Port}
use Rattle.ats_streams.specs.Branches.{branches_of}
use Rattle.ats_streams.specs.declared.branch.Branch.{Branch}
use Rattle.ats_network.specs.Sender.{Sender}
use Rattle.ats_network.specs.Network.{DeclaredNetwork, IsNetwork, senders_of}
use Rattle.ats_network.specs.Senders.{sender_at}
use Rattle.ats_group.specs.declared.verdict.Verdict.{Verdict}
use Rattle.ats_group.specs.declared.verdict.Verdict.TheVariants.{Eligible}
use Rattle.ats_group.specs.Judge.{ats_judge}
use Rattle.ats_port_rule.specs.PortRule.{KeepsPortRule}
use Rattle.ats_trace.specs.Journey.{Leg, Travel, legs_in, record_at, trunk_at}
use Rattle.ats_trace.specs.Projections.{sent_by, handed_by}
use Rattle.ats_trace.specs.Eligibility.{IsJudged, IsPassed}
use Rattle.ats_trace.specs.Run.{IsIdeal, releases_of}
use Rattle.ats_trace.specs.declared.journey.Release.{Release}
use Rattle.ats_trace.specs.HopRecord.{HopRecord}
use Rattle.ats_trace.specs.declared.journey.Ending.{Ending}
use Rattle.ats_trace.specs.declared.journey.Ending.TheVariants.{Sink, Discard}

-- The rules of a run once more, where each port has one latency: then a frame's way says when it arrives, and no rule
-- speaks of two frames of a link.

-- when a frame arrives behind a port that has sent it until this time
abbrev pub arrival_after : Port → ℕ → ℕ
arrival_after port end = end + port.latency.0

-- what follows a verdict and the times of a transmission at a port: an eligible frame is sent, arrives behind the port
-- and goes on from there; a frame with another verdict is not sent, and its way ends
abbrev pub IsSentOrEndsAt : (ℕ → Type 0) → Port → Verdict → Option (Ps × Ps) → List HopRecord → Ending → Type 0
IsSentOrEndsAt onward port (Eligible e) (Some times) hops ending = onward (arrival_after port times.1.0)
IsSentOrEndsAt onward port (Eligible e) None hops ending = ⊥
IsSentOrEndsAt onward port verdict (Some times) hops ending = ⊥
IsSentOrEndsAt onward port verdict None hops ending = (hops ≡ []) × (ending ≡ Discard)

-- the way of a frame that comes at this time to the first port of what is left of a leg, with the records from there
-- on: one for each port that it comes to, and after the last port the listener's arrival
abbrev pub IsWayAt : List Port → ℕ → List ℕ → List HopRecord → Ending → Type 0
IsWayAt ports due [] [] (Sink at) = at.0 ≡ due
IsWayAt ports due [] [] Discard = ⊥
IsWayAt ports due [] (hop ∷ hops) ending = ⊥
IsWayAt ports due (p ∷ path) [] ending = ⊥
IsWayAt ports due (p ∷ path) (hop ∷ hops) ending =
    (hop.arrival.0 ≡ due)
    × IsSentOrEndsAt (λ at. IsWayAt ports at path hops ending) (port_at ports p) hop.verdict hop.sent hops ending

-- the first hop of a journey: a node's own frame is eligible at its release
abbrev pub IsEligibleAtRelease : Release → List HopRecord → Type 0
IsEligibleAtRelease release [] = ⊥
IsEligibleAtRelease release (hop ∷ hops) = hop.verdict ≡ Eligible release.at

-- the first hop of a copy: it has the verdict that the frame got where the branch begins
abbrev pub IsJudgedAs : HopRecord → List HopRecord → Type 0
IsJudgedAs start [] = ⊥
IsJudgedAs start (hop ∷ hops) = hop.verdict ≡ start.verdict

-- what happened to a copy: its way begins when the frame came to the hop where the branch begins
abbrev pub IsCopyAt : List Port → Option HopRecord → List ℕ → Leg → Type 0
IsCopyAt ports (Some start) path leg =
    IsJudgedAs start leg.hops × IsWayAt ports start.arrival.0 path leg.hops leg.ending
IsCopyAt ports None path leg = (leg.hops ≡ []) × (leg.ending ≡ Discard)

abbrev pub AreCopiesAt : List Port → Sender → Travel → Type 0
AreCopiesAt ports sender journey =
    AllZip
    (λ (branch : Branch × List ℕ) (leg : Leg). IsCopyAt ports (record_at (legs_in journey) branch.0) branch.1 leg)
    (branches_of sender.ports sender.branches) journey.copies

-- one frame's journey over the legs of its sender
pub record IsJourneyAt (network : DeclaredNetwork) (journey : Travel) : Type 0 where
  pub sender : journey.release.sender < length (senders_of network)
  pub octets : IsFrameSize journey.release.octets
  pub way : IsWayAt network.topology.ports journey.release.at.0 (trunk_at network journey.release.sender)
      journey.hops journey.ending
  pub released : IsEligibleAtRelease journey.release journey.hops
  pub copies : AreCopiesAt network.topology.ports (sender_at network journey.release.sender) journey

-- a run in which no link's frames take more or less than the port's latency
pub record IsLegalAt (network : DeclaredNetwork) (run : List Travel) : Type 0 where
  pub in_order : IsNonDecreasing (map (λ (r : Release). r.at.0) (releases_of run))
  pub journeys : All (IsJourneyAt network) run
  pub ports : (port : ℕ) → port < length network.topology.ports
      → KeepsPortRule (port_at network.topology.ports port).ps_per_bit (sent_by network run port)
  pub groups : (port class : ℕ) → port < length network.topology.ports → 1 ≤ class
      → IsJudged ats_judge network port (handed_by network run port class)
  pub flows : (port : ℕ) → port < length network.topology.ports → All (IsPassed network) (handed_by network run port 0)

-- each port's earliest latency is its latency, as where each bridge takes one time to process a frame
abbrev pub HaveOneLatency : List Port → Type 0
HaveOneLatency ports = All (λ (port : Port). port.earliest ≡ port.latency) ports

-- where that is so, those are the legal runs
abbrev pub LinksAreExact : Type 0
LinksAreExact = (network : DeclaredNetwork) (run : List Travel) → IsNetwork network
    → HaveOneLatency network.topology.ports
    → IsIdeal network run ↔ IsLegalAt network run
