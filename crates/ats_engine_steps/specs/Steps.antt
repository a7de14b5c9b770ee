use Rattle.std.specs.Prelude.{◌≡◌, ℕ, ◌+◌, ◌-◌, ◌≤◌, ◌==◌, ◌&&◌, Bool, List, [], ◌∷◌, ◌++◌, length, map, filter}
use Rattle.std.specs.Prelude.{slice_index, slice_index_or, slice_set, false, Option, Some, None, Contains}
use Rattle.std.specs.Prelude.{if◌then◌else◌, IsPermutation}
use Rattle.std.specs.List.{range_with_len}
use Rattle.ats_num.specs.declared.time.Ps.{Ps}
use Rattle.ats_topology.specs.Port.{port_at}
use Rattle.ats_streams.specs.Branches.{leg_at, no_branch}
use Rattle.ats_streams.specs.declared.branch.Branch.{Branch}
use Rattle.ats_network.specs.Network.{DeclaredNetwork}
use Rattle.ats_network.specs.Class.{class_at}
use Rattle.ats_events.specs.declared.moment.Moment.{Moment}
use Rattle.ats_streams.specs.Traffic.{is_declared_size}
use Rattle.ats_group.specs.GroupsState.{GroupsState, verdict_of, value_after}
use Rattle.ats_group.specs.declared.verdict.Verdict.{Verdict}
use Rattle.ats_group.specs.declared.verdict.Verdict.TheVariants.{Eligible, Size}
use Rattle.ats_schedulers.specs.Schedulers.{scheduler_of}
use Rattle.ats_transmit.specs.Picks.{IsFirstStart, Starts}
use Rattle.ats_transmit.specs.State.{PortState, IsLawfulPort}
use Rattle.ats_trace.specs.Eligibility.{declared_by}
use Rattle.ats_trace.specs.Journey.{legs_at}
use Rattle.ats_trace.specs.Stored.{row_of}
use Rattle.ats_trace.specs.declared.journey.Ending.TheVariants.{Sink}
use Rattle.ats_trace.specs.HopRecord.{HopRecord}
use Rattle.ats_run_records.specs.Progress.{Progress, progress_at, with_hop, with_sent, with_ending}
use Rattle.ats_engine_steps.specs.Course.{Course, place_at, offer_at, turn_at, arrives_from_at, sender_of, path_of}
use Rattle.ats_engine_steps.specs.Entries.{arrival_moment, eligible_moment, selection_moment}
use Rattle.ats_engine_steps.specs.Paces.{arrival_behind}
use Rattle.ats_engine_steps.specs.Ports.{IsTurn, port_state_at}
use Rattle.ats_engine_steps.specs.declared.event.Event.{Event}
use Rattle.ats_engine_steps.specs.declared.event.Event.TheVariants.{Arrival, Eligibility, Selection}
use Rattle.ats_engine_steps.specs.declared.stage.Stage.{Stage}
use Rattle.ats_engine_steps.specs.declared.stage.Stage.TheVariants.{Coming, Due, Waiting, Over}
use Rattle.ats_engine_steps.specs.declared.turn.Turn.{Turn}
use Rattle.ats_engine_steps.specs.declared.turn.Turn.TheVariants.{Resting, Selecting}

-- what a step does to one leg: how far the frame is along it then, what has happened there, and what is to happen
pub record Move : Type 0 where
  pub stage : Stage
  pub progress : Progress
  pub entries : List (Moment × Event)

-- the leg with a row takes the move, at this moment
abbrev pub moved : {T : Type 0} → Course T → Moment → ℕ → Move → Course T
moved course now row move = record course {
  stages = slice_set course.stages row move.stage;
  records = slice_set course.records row move.progress;
  last = now;
}

-- one port stands differently, and does this next
abbrev pub with_port : {T : Type 0} → Course T → ℕ → PortState T → Turn → Course T
with_port course port standing turn = record course {
  ports = slice_set course.ports port standing;
  turns = slice_set course.turns port turn;
}

-- the selection that a port's turn brings
abbrev pub selections : ℕ → Turn → List (Moment × Event)
selections port (Selecting at) = (selection_moment port at, Selection port) ∷ []
selections port turn = []

-- the scheduler that a frame meets when it comes to the next port of a leg: the one behind the port before
abbrev pub scheduler_before : DeclaredNetwork → Progress → ℕ
scheduler_before network progress =
    scheduler_of network progress.release.sender progress.leg (length progress.hops)

-- the verdict on a frame that comes to a node now: at its talker it is eligible; at a bridge a stream's frame is
-- judged by the group behind the port that it left, and a flow's frame by its size
abbrev pub judged_by : DeclaredNetwork → GroupsState → ℕ → Progress → ℕ → Verdict
judged_by network groups class progress now =
    if class == 0
    then (if is_declared_size (declared_by network progress.release.sender) progress.release.octets
    then Eligible (record { 0 = now }) else Size)
    else verdict_of groups (scheduler_before network progress) now progress.release.octets

-- the class in which a frame came along a leg, behind the port of its last record there
abbrev pub class_behind : DeclaredNetwork → Progress → ℕ
class_behind network progress =
    class_at (sender_of network progress) (slice_index (path_of network progress) (length progress.hops - 1))

abbrev pub verdict_now : DeclaredNetwork → GroupsState → Progress → ℕ → Verdict
verdict_now network groups progress now =
    if length progress.hops == 0 then Eligible (record { 0 = now })
    else judged_by network groups (class_behind network progress) progress now

-- what the groups keep then
abbrev pub groups_now : DeclaredNetwork → GroupsState → Progress → ℕ → GroupsState
groups_now network groups progress now =
    if length progress.hops == 0 then groups
    else (if class_behind network progress == 0 then groups
    else value_after groups (scheduler_before network progress) now progress.release.octets)

-- the hop record of a frame that came at this time
abbrev pub came : Ps → Verdict → HopRecord
came at verdict = record { arrival = at; verdict = verdict; sent = None }

-- a branch begins at a hop of a leg
abbrev pub begins_at : ℕ → ℕ → Branch → Bool
begins_at leg hop b = b.leg == leg && b.hop == hop

-- the copy with a leg's number of the frame of a leg begins at a hop of it
abbrev pub begins_in : DeclaredNetwork → Progress → ℕ → ℕ → Bool
begins_in network progress hop copy =
    begins_at progress.leg hop (slice_index_or (sender_of network progress).branches (copy - 1) no_branch)

-- then this is its row, where the copies of each frame begin at these rows
abbrev pub row_begun : DeclaredNetwork → List ℕ → Progress → ℕ → ℕ → Option ℕ
row_begun network firsts progress hop copy =
    if begins_in network progress hop copy then Some (row_of firsts progress.frame copy) else None

-- the rows of the legs to which a frame comes at a hop of a leg, where the copies of each frame begin at these rows:
-- that of the leg, and those of the legs that begin there
abbrev pub rows_at : DeclaredNetwork → List ℕ → ℕ → Progress → ℕ → List ℕ
rows_at network firsts row progress hop =
    row ∷ map (row_of firsts progress.frame) (filter (begins_in network progress hop)
    (range_with_len 1 (length (sender_of network progress).branches)))

-- those to which it comes next
abbrev pub rows_next : {T : Type 0} → DeclaredNetwork → Course T → ℕ → List ℕ
rows_next network course row = rows_at network course.firsts row (progress_at course.records row)
    (length (progress_at course.records row).hops)

-- of a list, the elements at these places are new ones
abbrev pub set_each : {X : Type 0} → List ℕ → (ℕ → X) → List X → List X
set_each [] new xs = xs
set_each (n ∷ places) new xs = set_each places new (slice_set xs n (new n))

-- how far a frame with this verdict is
abbrev pub stage_by : Verdict → Stage
stage_by (Eligible e) = Due e
stage_by verdict = Over

-- when it is eligible, if it is
abbrev pub due_by : Verdict → Option Ps
due_by (Eligible e) = Some e
due_by verdict = None

-- it becomes eligible at the same time along each of these legs
abbrev pub due_entries : Option Ps → List ℕ → List (Moment × Event)
due_entries (Some e) rows = map (λ (row : ℕ). (eligible_moment row e, Eligibility row)) rows
due_entries None rows = []

-- it gets a hop record along a leg
abbrev pub entered : {T : Type 0} → Course T → ℕ → Ps → Verdict → Course T
entered course row at verdict = record course {
  stages = slice_set course.stages row (stage_by verdict);
  records = slice_set course.records row (with_hop (progress_at course.records row) (came at verdict));
}

-- an arrival: one group judges the frame, once, and each leg to which it comes gets a hop record with its arrival and
-- its verdict; where it is eligible, it is so along each of them at this time
pub record Comes {T : Type 0} (network : DeclaredNetwork) (old new : Course T) (now : Moment) (row : ℕ)
    (due : Option Ps) : Type 0 where
  pub verdict : Verdict
  pub rows : List ℕ
  pub judged : verdict ≡ verdict_now network old.groups (progress_at old.records row) now.at.0
  pub next : rows ≡ rows_next network old row
  pub becomes : new ≡ record old {
    stages = set_each rows (λ (n : ℕ). stage_by verdict) old.stages;
    records = set_each rows (λ (n : ℕ). with_hop (progress_at old.records n) (came now.at verdict)) old.records;
    groups = groups_now network old.groups (progress_at old.records row) now.at.0;
    last = now;
  }
  pub brings : due ≡ due_by verdict

-- the turn of a port that was offered a frame: one that rested selects then
abbrev pub turn_once_offered : Turn → Ps → Turn
turn_once_offered Resting at = Selecting at
turn_once_offered turn at = turn

-- and this selection is to happen
abbrev pub selections_once_offered : ℕ → Turn → Ps → List (Moment × Event)
selections_once_offered port Resting at = (selection_moment port at, Selection port) ∷ []
selections_once_offered port turn at = []

-- a frame becomes eligible along a leg: its port holds it from now on, and where it has rested it selects when it can
-- first start a frame
pub record BecomesEligible {T : Type 0} (key : T → ℕ → ℕ → ℕ) (network : DeclaredNetwork)
    (old new : Course T) (now : Moment) (row : ℕ) (entries : List (Moment × Event)) : Type 0 where
  pub port : ℕ
  pub standing : PortState T
  pub at : Ps
  pub place : place_at network old row ≡ port
  pub held : IsPermutation (offer_at network old row ∷ (port_state_at old port).held) standing.held
  pub rest : standing ≡ record (port_state_at old port) { held = standing.held }
  pub lawful : IsLawfulPort key standing
  pub next : turn_at old port ≡ Resting → IsFirstStart standing.held standing.sent at.0
  pub becomes : new ≡ with_port (moved old now row (record {
    stage = Waiting;
    progress = progress_at old.records row;
    entries = [];
  })) port standing (turn_once_offered (turn_at old port) at)
  pub brings : entries ≡ selections_once_offered port (turn_at old port) at

-- a port and a frame that passes it name a leg: that of the frame which has the port, with this row
pub record IsLegAt {T : Type 0} (network : DeclaredNetwork) (course : Course T) (frame port row : ℕ) : Type 0 where
  pub leg : ℕ
  pub there : leg ≤ length (sender_of network (progress_at course.records frame)).branches
  pub has : Contains (leg_at (legs_at network (progress_at course.records frame).release.sender) leg) port
  pub is : row ≡ row_of course.firsts frame leg

-- a frame that is sent arrives behind the port at this time: at the next port of the leg, or at the leg's listener
abbrev pub leaves_for : DeclaredNetwork → ℕ → Progress → Ps → Move
leaves_for network row progress at =
    if length progress.hops == length (path_of network progress)
    then record { stage = Over; progress = with_ending progress (Sink at); entries = [] }
    else record {
      stage = Coming at;
      progress = progress;
      entries = (arrival_moment row at, Arrival row) ∷ [];
    }

-- a port selects: one of the frames that it holds is sent from now on, along the leg that they name. So it is known at
-- once until when the port is sending it, how it is standing then, and when the frame arrives behind it
pub record Selects {T : Type 0} (key : T → ℕ → ℕ → ℕ) (wait : ℕ → ℕ → ℕ) (network : DeclaredNetwork)
    (old new : Course T) (now : Moment) (port : ℕ) (entries : List (Moment × Event)) : Type 0 where
  pub frame : ℕ
  pub row : ℕ
  pub end : Ps
  pub arrival : Ps
  pub sending : PortState T
  pub standing : PortState T
  pub turn : Turn
  pub move : Move
  pub starts : Starts (key old.tie) (port_state_at old port) sending now.at.0 frame end.0
  pub finished : standing ≡ record sending { is_sending = false }
  pub lawful : IsLawfulPort key standing
  pub named : IsLegAt network old frame port row
  pub arrives : arrival.0 ≡ arrival_behind wait (port_at network.topology.ports port) frame end.0
      (arrives_from_at old port)
  pub next : IsTurn standing turn
  pub is : move ≡ leaves_for network row (with_sent (progress_at old.records row) now.at end) arrival
  pub becomes : new ≡ record (with_port (moved old now row move) port standing turn) {
    arrives_from = slice_set old.arrives_from port (record { 0 = arrival.0 + 1 });
  }
  pub brings : entries ≡ move.entries ++ selections port turn
