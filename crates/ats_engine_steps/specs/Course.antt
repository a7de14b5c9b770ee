use Rattle.std.specs.Prelude.{ℕ, ◌-◌, ◌==◌, ◌&&◌, List, length, map, filter, slice_index_or}
use Rattle.std.specs.List.{flat_map, zip}
use Rattle.ats_num.specs.declared.time.Ps.{Ps}
use Rattle.ats_streams.specs.Branches.{leg_at}
use Rattle.ats_network.specs.Network.{DeclaredNetwork}
use Rattle.ats_network.specs.Sender.{Sender}
use Rattle.ats_network.specs.Senders.{sender_at}
use Rattle.ats_network.specs.Class.{class_at}
use Rattle.ats_group.specs.GroupsState.{GroupsState}
use Rattle.ats_group.specs.declared.verdict.Verdict.{Verdict}
use Rattle.ats_group.specs.declared.verdict.Verdict.TheVariants.{Eligible}
use Rattle.ats_transmit.specs.State.{PortState}
use Rattle.ats_transmit.specs.declared.offer.Offer.{Offer}
use Rattle.ats_events.specs.declared.moment.Moment.{Moment}
use Rattle.ats_port_rule.specs.Transmission.{Transmission}
use Rattle.ats_trace.specs.Journey.{Leg, Travel, legs_at}
use Rattle.ats_trace.specs.Projections.{Crossing, Hop, Handed, crossings_along, handed_along, hops_along}
use Rattle.ats_trace.specs.Stored.{gathered}
use Rattle.ats_trace.specs.declared.journey.Release.{Release}
use Rattle.ats_trace.specs.declared.journey.Ending.{Ending}
use Rattle.ats_trace.specs.declared.journey.Ending.TheVariants.{Sink}
use Rattle.ats_run_records.specs.Progress.{Progress, progress_at, last_hop}
use Rattle.ats_engine_steps.specs.declared.stage.Stage.{Stage}
use Rattle.ats_engine_steps.specs.declared.stage.Stage.TheVariants.{Coming, Over}
use Rattle.ats_engine_steps.specs.declared.turn.Turn.{Turn}
use Rattle.ats_engine_steps.specs.declared.turn.Turn.TheVariants.{Resting}

-- where a run stands between two events: how far each frame is along each of its legs and what has happened to it
-- there, and where the rows of each frame's copies begin; where each port stands and what it does next, from when on
-- the next frame may arrive behind it, what the groups keep, the moment of the last event, and the tie
pub record Course (T : Type 0) : Type 0 where
  pub stages : List Stage
  pub records : List Progress
  pub firsts : List ℕ
  pub ports : List (PortState T)
  pub turns : List Turn
  pub arrives_from : List Ps
  pub groups : GroupsState
  pub last : Moment
  pub tie : T

abbrev pub stage_at : {T : Type 0} → Course T → ℕ → Stage
stage_at course row = slice_index_or course.stages row Over

abbrev pub turn_at : {T : Type 0} → Course T → ℕ → Turn
turn_at course port = slice_index_or course.turns port Resting

-- from when on the next frame may arrive behind a port: a picosecond after the last one, 0 before the first
abbrev pub arrives_from_at : {T : Type 0} → Course T → ℕ → ℕ
arrives_from_at course port = (slice_index_or course.arrives_from port (record { 0 = 0 })).0

-- the sender of a leg's frame, and the ports of the leg
abbrev pub sender_of : DeclaredNetwork → Progress → Sender
sender_of network progress = sender_at network progress.release.sender

abbrev pub path_of : DeclaredNetwork → Progress → List ℕ
path_of network progress = leg_at (legs_at network progress.release.sender) progress.leg

-- the port of a leg's last hop record
abbrev pub place_of : DeclaredNetwork → Progress → ℕ
place_of network progress = slice_index_or (path_of network progress) (length progress.hops - 1) 0

abbrev pub place_at : {T : Type 0} → DeclaredNetwork → Course T → ℕ → ℕ
place_at network course row = place_of network (progress_at course.records row)

-- the time of a verdict, where the frame is eligible
abbrev pub eligibility_of : Verdict → Ps
eligibility_of (Eligible e) = e
eligibility_of verdict = record { 0 = 0 }

-- a frame as the port of a leg's last hop record is offered it
abbrev pub offer_of : DeclaredNetwork → Progress → Offer
offer_of network progress = record {
  frame = progress.frame;
  sender = progress.release.sender;
  class = class_at (sender_of network progress) (place_of network progress);
  eligible = eligibility_of (last_hop progress).verdict;
  octets = progress.release.octets;
}

abbrev pub offer_at : {T : Type 0} → DeclaredNetwork → Course T → ℕ → Offer
offer_at network course row = offer_of network (progress_at course.records row)

-- how a way along a leg ends, as far as it is known: a frame that a port sends, or that is on its way behind it, counts
-- as if it were at its listener when it arrives, so that it has crossed the port
abbrev pub ending_by : Stage → Ending → Ending
ending_by (Coming at) ending = Sink at
ending_by stage ending = ending

-- what has happened along a leg so far
abbrev pub told_by : Stage × Progress → Release × Leg
told_by row =
    (row.1.release, record { hops = row.1.hops; ending = ending_by row.0 row.1.ending })

-- the run so far
abbrev pub travels : {T : Type 0} → Course T → List Travel
travels course = gathered (map told_by (zip course.stages course.records)) course.firsts

-- what is projected from a leg so far: its transmissions, its crossings, and what was handed on
abbrev pub leg_hops : DeclaredNetwork → Progress → List Hop
leg_hops network p = hops_along p.frame p.release (sender_of network p) (path_of network p) p.hops

abbrev pub leg_crossings : DeclaredNetwork → Stage × Progress → List Crossing
leg_crossings network row =
    crossings_along row.1.frame row.1.release (sender_of network row.1) (path_of network row.1) row.1.hops
    (ending_by row.0 row.1.ending)

abbrev pub leg_handed : DeclaredNetwork → Progress → List Handed
leg_handed network p = handed_along p.frame p.release (sender_of network p) (path_of network p) p.hops

-- and from all legs, in the order of their rows: the transmissions of a port, its crossings, and the frames of a class
-- that it has handed on. Each list has the same elements as that of the run so far
abbrev pub sent_so_far : {T : Type 0} → DeclaredNetwork → Course T → ℕ → List Transmission
sent_so_far network course port =
    map (λ (h : Hop). h.sent) (filter (λ (h : Hop). h.port == port) (flat_map (leg_hops network) course.records))

abbrev pub crossings_so_far : {T : Type 0} → DeclaredNetwork → Course T → ℕ → List Crossing
crossings_so_far network course port =
    filter (λ (c : Crossing). c.port == port)
    (flat_map (leg_crossings network) (zip course.stages course.records))

abbrev pub handed_so_far : {T : Type 0} → DeclaredNetwork → Course T → ℕ → ℕ → List Handed
handed_so_far network course port class =
    filter (λ (h : Handed). h.crossing.port == port && h.crossing.sent.class == class)
    (flat_map (leg_handed network) course.records)
