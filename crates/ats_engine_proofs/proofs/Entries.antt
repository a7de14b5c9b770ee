-- The entries of the agenda: after each step, in any order, how many they are, and their moments.
use Rattle.std.proofs.Common.{◌≡◌, ℕ, ◌+◌, ◌*◌, ◌<◌, ◌≤◌, Bool, true, false, List, [], ◌∷◌, ◌++◌, length, get_or}
use Rattle.std.proofs.Common.{set, All, Option, Some, map, IsPermutation, refl, sym, ap, ◌∙◌, subst, inl, inr, arith}
use Rattle.std.specs.Prelude.{◌≢◌, ◌==◌, AllPairs, slice_index_or, if◌then◌else◌}
use Rattle.std.proofs.lemmas.Bool.{cases_lt}
use Rattle.std.proofs.lemmas.List.{length-map}
use Rattle.std.proofs.lemmas.List.Elements.{All-append, All-cons, All-contains_itself, All-map, All-nil}
use Rattle.std.proofs.lemmas.List.Sorted.{All-permutation, Contains-permutation}
use Rattle.std.proofs.lemmas.Option.{none-some, IfSome_then}
use Rattle.ats_facts.proofs.Pairs.{AllPairs-permutation}
use Rattle.ats_num.specs.declared.time.Ps.{Ps}
use Rattle.ats_topology.specs.declared.link.TheConstants.{MAX_LINKS}
use Rattle.ats_topology.proofs.Rules.{ports_are_lawful}
use Rattle.ats_network.specs.Network.{DeclaredNetwork}
use Rattle.ats_group.specs.Judge.{OnEligible}
use Rattle.ats_group.specs.declared.verdict.Verdict.{Verdict}
use Rattle.ats_group.specs.declared.verdict.Verdict.TheVariants.{Eligible, Late, Size}
use Rattle.ats_transmit.specs.Sending.{last_end}
use Rattle.ats_transmit.specs.State.{PortState}
use Rattle.ats_run_records.specs.Progress.{Progress, progress_at, with_ending, with_sent}
use Rattle.ats_trace.specs.declared.journey.Ending.TheVariants.{Sink}
use Rattle.ats_events.specs.declared.moment.Moment.{Moment}
use Rattle.ats_events.specs.declared.phase.TheConstants.{ARRIVAL, SELECTION}
use Rattle.ats_events.specs.Order.{IsInRange, IsIrreflexive, IsTransitive, IsTimed}
use Rattle.ats_trace.specs.declared.journey.Release.{Release}
use Rattle.ats_trace.specs.declared.run.TheConstants.{MAX_HOPS}
use Rattle.ats_engine_steps.specs.Bounds.{all_left, horizon}
use Rattle.ats_engine_steps.specs.Course.{Course, stage_at, turn_at, place_at, path_of}
use Rattle.ats_engine_steps.specs.Entries.{AreAwaited, IsReached, moment_of, arrival_moment, eligible_moment}
use Rattle.ats_engine_steps.specs.Entries.{arrival_by, eligibility_by}
use Rattle.ats_engine_steps.specs.Entries.{selection_moment}
use Rattle.ats_engine_steps.specs.Invariant.{Holds}
use Rattle.ats_engine_steps.specs.Frames.{IsFrame, IsDueAt}
use Rattle.ats_engine_steps.specs.Ports.{IsTurn}
use Rattle.ats_engine_steps.specs.Steps.{Comes, BecomesEligible, Selects, Move, due_by, due_entries}
use Rattle.ats_engine_steps.specs.Steps.{rows_next, selections, selections_once_offered, set_each, stage_by}
use Rattle.ats_engine_steps.specs.Steps.{turn_once_offered}
use Rattle.ats_engine_steps.specs.declared.event.Event.{Event}
use Rattle.ats_engine_steps.specs.declared.event.Event.TheVariants.{Arrival, Eligibility, Selection}
use Rattle.ats_engine_steps.specs.declared.stage.Stage.{Stage}
use Rattle.ats_engine_steps.specs.declared.stage.Stage.TheVariants.{Apart, Coming, Due, Waiting, Over}
use Rattle.ats_engine_steps.specs.declared.turn.Turn.{Turn}
use Rattle.ats_engine_steps.specs.declared.turn.Turn.TheVariants.{Resting, Selecting}
use Rattle.ats_engine_proofs.specs.Next.{IsEligibleNow, IsNext, IsAfter}
use Rattle.ats_engine_proofs.proofs.Allowed.{may-come}
use Rattle.ats_engine_proofs.proofs.Awaited.{Brings}
use Rattle.ats_engine_proofs.proofs.Begun.{next-or-apart}
use Rattle.ats_engine_proofs.proofs.Counting.{numbers_below}
use Rattle.ats_engine_proofs.proofs.Fates.{entries_by, Enters, IsFreeRow, Steps, Turns, brings_one, brings_both}
use Rattle.ats_engine_proofs.proofs.Fates.{brings_each, stage_due}
use Rattle.ats_engine_proofs.proofs.FewRows.{rows-few}
use Rattle.ats_engine_proofs.proofs.Lasting.{selects-later}
use Rattle.ats_engine_proofs.proofs.ListFacts.{pairs-map}
use Rattle.ats_engine_proofs.proofs.Placed.{IsStanding, standing-place}
use Rattle.ats_engine_proofs.proofs.PortSteps.{offered-at, selects-last}
use Rattle.ats_engine_proofs.proofs.Rows.{next-own, set_each-at, set_each-off}
use Rattle.ats_engine_proofs.proofs.Travels.{selects-stage}
use Rattle.ats_engine_proofs.proofs.Stages.{next-coming, next-due, next-selecting, stage-within}
use Rattle.ats_engine_proofs.proofs.Stages.{turn-within}
use Rattle.ats_engine_proofs.proofs.Verdicts.{IsSoon, soon_now}
use Rattle.ats_engine_proofs.proofs.Events.{phase_of, number_of, IsOf, is-of, same-event, is-within, place_by}
use Rattle.ats_engine_proofs.proofs.Events.{place-below}
use Rattle.ats_engine_proofs.proofs.Events.{event_at, at-place, number-below, phase-below}
use Rattle.ats_engine_proofs.proofs.Follow.{awaited-at, awaited-by, next-of, eligibility-here, selection-here}
use Rattle.ats_engine_proofs.proofs.Follow.{set-here, set-elsewhere, turned-here, turned-elsewhere, row-within}

-- a move that is the same as one that brings the entry of its stage does so too
moved-entries : (row : ℕ) (m n : Move) → m ≡ n → n.entries ≡ entries_by row n.stage
    → m.entries ≡ entries_by row m.stage
moved-entries row m n same is = subst (λ (x : Move). x.entries ≡ entries_by row x.stage) (sym same) is

-- where a frame that was sent goes, by whether that was its last port
abbrev pub left_by : ℕ → Progress → Progress → Ps → Bool → Move
left_by row over p at last =
    if last then record { stage = Over; progress = over; entries = [] }
    else record { stage = Coming at; progress = p; entries = (arrival_moment row at, Arrival row) ∷ [] }

-- it brings the entry of its stage
leaves-entries : (row : ℕ) (p q : Progress) (at : Ps) (last : Bool)
    → (left_by row p q at last).entries ≡ entries_by row (left_by row p q at last).stage
leaves-entries row p q at true = refl
leaves-entries row p q at false = refl

-- a frame that comes becomes eligible later, if it does, along each leg
due-later : (now : Moment) (rows : List ℕ) (v : Verdict) → now.phase ≡ ARRIVAL → OnEligible v (IsSoon now.at.0)
    → All (λ (x : Moment × Event). IsAfter now x.0) (due_entries (due_by v) rows)
due-later now rows (Eligible e) is soon =
    All-map (λ (x : Moment × Event). IsAfter now x.0) (λ (n : ℕ). (eligible_moment n e, Eligibility n)) rows
    (λ k d h. record { time = soon.0; phase = λ same. omega arith })
due-later now rows (Late e) is soon = All-nil (λ (x : Moment × Event). IsAfter now x.0)
due-later now rows Size is soon = All-nil (λ (x : Moment × Event). IsAfter now x.0)

-- what a frame that comes brings is later
pub comes-after : {T : Type 0} {key : T → ℕ → ℕ → ℕ} {wait : ℕ → ℕ → ℕ} {network : DeclaredNetwork}
    {releases : List Release} {old new : Course T} {now : Moment} {row : ℕ} {entries : List (Moment × Event)}
    {due : Option Ps} → IsNext key wait network releases old now (Arrival row) entries
    → Comes network old new now row due
    → All (λ (entry : Moment × Event). IsAfter now entry.0) (due_entries due (rows_next network old row))
comes-after {T} {key} {wait} {network} {releases} {old} {new} {now} {row} {entries} {due} next step =
    let rows : List ℕ = rows_next network old row in
    let soon : OnEligible step.verdict (IsSoon now.at.0) =
    subst (λ (v : Verdict). OnEligible v (IsSoon now.at.0)) (sym step.judged)
    (soon_now network old.groups (progress_at old.records row) now.at.0 next.holds.rules next.holds.members) in
    subst (λ (d : Option Ps). All (λ (x : Moment × Event). IsAfter now x.0) (due_entries d rows)) (sym step.brings)
    (due-later now rows step.verdict (next-of next).phase soon)

-- a frame that comes had no other event to happen, and neither had one that has not come to where a leg begins
free-coming : {T : Type 0} (old : Course T) (row : ℕ) (at : Ps) → stage_at old row ≡ Coming at
    → IsFreeRow (moment_of old) (Arrival row) row
free-coming old row at was = record {
  arrival = λ m is. refl;
  eligibility = λ m is. absurd (none-some m (ap (eligibility_by row) (sym was) ∙ is));
}

free-apart : {T : Type 0} (old : Course T) (happened : Event) (row : ℕ) → stage_at old row ≡ Apart
    → IsFreeRow (moment_of old) happened row
free-apart old happened row was = record {
  arrival = λ m is. absurd (none-some m (ap (arrival_by row) (sym was) ∙ is));
  eligibility = λ m is. absurd (none-some m (ap (eligibility_by row) (sym was) ∙ is));
}

-- the stage that a verdict brings
stage-by_due : (v : Verdict) → stage_by v ≡ stage_due (due_by v)
stage-by_due (Eligible e) = refl
stage-by_due (Late e) = refl
stage-by_due Size = refl

-- an arrival sets the rows of the legs to which the frame comes
pub comes-enters : {T : Type 0} {key : T → ℕ → ℕ → ℕ} {wait : ℕ → ℕ → ℕ} {network : DeclaredNetwork}
    {releases : List Release} {old new : Course T} {now : Moment} {row : ℕ} {entries : List (Moment × Event)}
    {due : Option Ps} → IsNext key wait network releases old now (Arrival row) entries
    → Comes network old new now row due → Enters old new row (rows_next network old row) due
comes-enters {T} {key} {wait} {network} {releases} {old} {new} {now} {row} {entries} {due} next step =
    let rows : List ℕ = rows_next network old row in
    let may = may-come next in
    let was : stage_at old row ≡ Coming now.at = next-coming next in
    let even : length old.stages ≡ length old.records = next.holds.shape.stages in
    let Free : ℕ → Type 0 = IsFreeRow (moment_of old) (Arrival row) in
    let staged : new.stages ≡ set_each rows (λ (n : ℕ). stage_by step.verdict) old.stages =
    ap (λ (c : Course T). c.stages) step.becomes
    ∙ ap (λ (ns : List ℕ). set_each ns (λ (n : ℕ). stage_by step.verdict) old.stages) step.next in
    record {
      own = next-own network old row;
      apart = may.apart;
      free = λ k d h. (
          let n : ℕ = get_or rows k d in
          elim (next-or-apart next.holds row may.may_come.room.within k d h) as (λ _. Free n) [
            | inl same ↦ subst Free (sym same) (free-coming old row now.at was)
            | inr apart ↦ free-apart old (Arrival row) n apart.stage
          ]);
      becomes = λ k d h. (
          let n : ℕ = get_or rows k d in
          ap (λ (ss : List Stage). get_or ss n Over) staged
          ∙ set_each-at rows (λ (n : ℕ). stage_by step.verdict) old.stages n Over
          (All-contains_itself rows k d h) (omega (arith, (may.next k d h).within))
          ∙ stage-by_due step.verdict ∙ ap stage_due (sym step.brings));
      stages = λ n off. ap (λ (ss : List Stage). get_or ss n Over) staged
          ∙ set_each-off rows (λ (n : ℕ). stage_by step.verdict) old.stages n Over off;
      turns = λ port. ap (λ (c : Course T). turn_at c port) step.becomes;
    }

-- the events that are to happen after a frame came
pub comes-awaited : {T : Type 0} {key : T → ℕ → ℕ → ℕ} {wait : ℕ → ℕ → ℕ} {network : DeclaredNetwork}
    {releases : List Release} {old new : Course T} {now : Moment} {row : ℕ} {entries : List (Moment × Event)}
    {due : Option Ps} → IsNext key wait network releases old now (Arrival row) entries
    → Comes network old new now row due → AreAwaited new (due_entries due (rows_next network old row) ++ entries)
comes-awaited {T} {key} {wait} {network} {releases} {old} {new} {now} {row} {entries} {due} next step =
    awaited-by new (due_entries due (rows_next network old row)) next (ap (λ (c : Course T). c.last) step.becomes)
    (brings_each (comes-enters next step)) (comes-after next step)

-- what is kept of a frame at this stage
pub row-at : {T : Type 0} {key : T → ℕ → ℕ → ℕ} {wait : ℕ → ℕ → ℕ} {network : DeclaredNetwork}
    {releases : List Release} {course : Course T} {entries : List (Moment × Event)} (row : ℕ) (s : Stage)
    → Holds key wait network releases course entries → stage_at course row ≡ s → s ≢ Over
    → IsFrame network course (progress_at course.records row) s
row-at {T} {key} {wait} {network} {releases} {course} row s holds was other =
    subst (IsFrame network course (progress_at course.records row)) was
    (holds.frames row (stage-within course row s holds.shape.stages was other))

-- a selection that a frame brings which becomes eligible is later
offered-later : (now : Moment) (port : ℕ) (at : Ps) (t : Turn) → now.phase < SELECTION
    → (t ≡ Resting → now.at.0 ≤ at.0)
    → All (λ (x : Moment × Event). IsAfter now x.0) (selections_once_offered port t at)
offered-later now port at Resting is later =
    All-cons (λ (x : Moment × Event). IsAfter now x.0) (selection_moment port at, Selection port) []
    (record { time = later refl; phase = λ same. omega arith }) (All-nil (λ (x : Moment × Event). IsAfter now x.0))
offered-later now port at (Selecting time) is later = All-nil (λ (x : Moment × Event). IsAfter now x.0)

-- what a frame that becomes eligible brings is later
pub offered-after : {T : Type 0} {key : T → ℕ → ℕ → ℕ} {wait : ℕ → ℕ → ℕ} {network : DeclaredNetwork}
    {releases : List Release} {old new : Course T} {now : Moment} {row : ℕ} {entries more : List (Moment × Event)}
    → IsEligibleNow key wait network releases old now row entries
    → BecomesEligible key network old new now row more → All (λ (entry : Moment × Event). IsAfter now entry.0) more
offered-after {T} {key} {wait} {network} {releases} {old} {new} {now} {row} {entries} {more} next step =
    subst (λ (es : List (Moment × Event)). All (λ (x : Moment × Event). IsAfter now x.0) es) (sym step.brings)
    (offered-later now step.port step.at (turn_at old step.port) next.before
    (λ rests. omega (arith, offered-at next step rests)))

-- what a frame that becomes eligible brings, by what its port does next
offered-brings : {T : Type 0} (old new : Course T) (now : Moment) (row port : ℕ) (at : Ps) (t : Turn)
    → Steps old new (Eligibility row) row port (Due now.at) Waiting → turn_at old port ≡ t
    → turn_at new port ≡ turn_once_offered t at
    → Brings (moment_of old) (moment_of new) (Eligibility row) (selections_once_offered port t at)
offered-brings old new now row port at Resting steps was becomes =
    brings_both old new (Eligibility row) row port (Due now.at) Waiting Resting (Selecting at) steps
    (record { was = was; becomes = becomes; selection = λ m is. absurd (none-some m is) })
offered-brings old new now row port at (Selecting time) steps was becomes =
    brings_one old new (Eligibility row) row port (Due now.at) Waiting steps (λ e. cc) (becomes ∙ sym was)

-- the events that are to happen after a frame became eligible
pub offered-awaited : {T : Type 0} {key : T → ℕ → ℕ → ℕ} {wait : ℕ → ℕ → ℕ} {network : DeclaredNetwork}
    {releases : List Release} {old new : Course T} {now : Moment} {row : ℕ} {entries more : List (Moment × Event)}
    → IsEligibleNow key wait network releases old now row entries
    → BecomesEligible key network old new now row more → AreAwaited new (more ++ entries)
offered-awaited {T} {key} {wait} {network} {releases} {old} {new} {now} {row} {entries} {more} next step =
    let was : stage_at old row ≡ Due now.at = next-due next in
    let is = row-at row (Due now.at) next.holds was (λ e. cc) in
    let turn : Turn = turn_once_offered (turn_at old step.port) step.at in
    let staged : new.stages ≡ set old.stages row Waiting = ap (λ (c : Course T). c.stages) step.becomes in
    let turned : new.turns ≡ set old.turns step.port turn = ap (λ (c : Course T). c.turns) step.becomes in
    let here : IsStanding network (IsDueAt now.at) (progress_at old.records row) =
    record { rules = next.holds.rules; sender = is.sender; leg = is.leg; stands = is.stands.here.0 } in
    let place : place_at network old row < length network.topology.ports = standing-place here in
    let steps : Steps old new (Eligibility row) row step.port (Due now.at) Waiting = record {
      here = eligibility-here row step.port;
      stages = set-elsewhere old new row Waiting staged;
      turns = turned-elsewhere old new step.port turn turned;
      was = was;
      becomes = set-here new old.stages row Waiting (row-within old row (Due now.at) was (λ e. cc)) staged;
      arrival = λ m is. absurd (none-some m is);
      eligibility = λ m is. refl;
    } in
    awaited-at (eligible_moment row now.at) new more next.holds.awaited next.first
    (ap (λ (c : Course T). c.last) step.becomes)
    (subst (Brings (moment_of old) (moment_of new) (Eligibility row)) (sym step.brings)
    (offered-brings old new now row step.port step.at (turn_at old step.port) steps refl
    (turned-here new old.turns step.port turn (omega (arith, next.holds.shape.turns, step.place)) turned)))
    (offered-after next step)

-- what is to happen to a frame that is sent does so later
leaves-later : (now : Moment) (row : ℕ) (p q : Progress) (at : Ps) (last : Bool) → now.at.0 < at.0
    → All (λ (x : Moment × Event). IsAfter now x.0) (left_by row p q at last).entries
leaves-later now row p q at true later = All-nil (λ (x : Moment × Event). IsAfter now x.0)
leaves-later now row p q at false later =
    All-cons (λ (x : Moment × Event). IsAfter now x.0) (arrival_moment row at, Arrival row) []
    (record { time = omega arith; phase = λ same. absurd (omega arith) })
    (All-nil (λ (x : Moment × Event). IsAfter now x.0))

-- and so does the next selection of its port
selections-later : {T : Type 0} (now : Moment) (port : ℕ) (standing : PortState T) (turn : Turn)
    → now.at.0 < last_end standing.sent → IsTurn standing turn
    → All (λ (x : Moment × Event). IsAfter now x.0) (selections port turn)
selections-later now port standing Resting later next = All-nil (λ (x : Moment × Event). IsAfter now x.0)
selections-later now port standing (Selecting at) later next =
    let free : last_end standing.sent ≤ at.0 = next.reached.free in
    All-cons (λ (x : Moment × Event). IsAfter now x.0) (selection_moment port at, Selection port) []
    (record { time = omega arith; phase = λ same. absurd (omega arith) })
    (All-nil (λ (x : Moment × Event). IsAfter now x.0))

-- what a selection brings is later
pub selects-after : {T : Type 0} {key : T → ℕ → ℕ → ℕ} {wait : ℕ → ℕ → ℕ} {network : DeclaredNetwork}
    {releases : List Release} {old new : Course T} {now : Moment} {port : ℕ} {entries more : List (Moment × Event)}
    → IsNext key wait network releases old now (Selection port) entries → Selects key wait network old new now port more
    → All (λ (entry : Moment × Event). IsAfter now entry.0) more
selects-after {T} {key} {wait} {network} {releases} {old} {new} {now} {port} {entries} {more} next step =
    let After : Moment × Event → Type 0 = λ (x : Moment × Event). IsAfter now x.0 in
    let q : Progress = with_sent (progress_at old.records step.row) now.at step.end in
    let later : now.at.0 < step.end.0 = selects-later next step in
    let arrives = step.arrives in
    let behind : now.at.0 < step.arrival.0 = omega arith in
    subst (λ (es : List (Moment × Event)). All After es) (sym step.brings)
    (All-append After step.move.entries (selections port step.turn)
    (subst (λ (m : Move). All After m.entries) (sym step.is)
    (leaves-later now step.row (with_ending q (Sink step.arrival)) q step.arrival
    (length q.hops == length (path_of network q)) behind))
    (selections-later now port step.standing step.turn (omega (arith, later, selects-last step)) step.next))

-- the events that are to happen after a selection
pub selects-awaited : {T : Type 0} {key : T → ℕ → ℕ → ℕ} {wait : ℕ → ℕ → ℕ} {network : DeclaredNetwork}
    {releases : List Release} {old new : Course T} {now : Moment} {port : ℕ} {entries more : List (Moment × Event)}
    → IsNext key wait network releases old now (Selection port) entries → Selects key wait network old new now port more
    → AreAwaited new (more ++ entries)
selects-awaited {T} {key} {wait} {network} {releases} {old} {new} {now} {port} {entries} {more} next step =
    let f : ℕ = step.row in
    let q : Progress = with_sent (progress_at old.records f) now.at step.end in
    let t : Stage = step.move.stage in
    let was : stage_at old f ≡ Waiting = selects-stage next step in
    let staged : new.stages ≡ set old.stages f t = ap (λ (c : Course T). c.stages) step.becomes in
    let turned : new.turns ≡ set old.turns port step.turn = ap (λ (c : Course T). c.turns) step.becomes in
    let own : step.move.entries ≡ entries_by f t =
    moved-entries f step.move _ step.is (leaves-entries f (with_ending q (Sink step.arrival)) q step.arrival
    (length q.hops == length (path_of network q))) in
    let steps : Steps old new (Selection port) f port Waiting t = record {
      here = selection-here f port;
      stages = set-elsewhere old new f t staged;
      turns = turned-elsewhere old new port step.turn turned;
      was = was;
      becomes = set-here new old.stages f t (row-within old f Waiting was (λ e. cc)) staged;
      arrival = λ m is. absurd (none-some m is);
      eligibility = λ m is. absurd (none-some m is);
    } in
    let turns : Turns old new (Selection port) port (Selecting now.at) step.turn = record {
      was = next-selecting next;
      becomes = turned-here new old.turns port step.turn
          (turn-within old port (Selecting now.at) (next-selecting next) (λ e. cc)) turned;
      selection = λ m is. refl;
    } in
    awaited-by new more next (ap (λ (c : Course T). c.last) step.becomes)
    (subst (Brings (moment_of old) (moment_of new) (Selection port))
    (sym (step.brings ∙ ap (λ (es : List (Moment × Event)). es ++ selections port step.turn) own))
    (brings_both old new (Selection port) f port Waiting t (Selecting now.at) step.turn steps turns))
    (selects-after next step)

-- what holds does not depend on the order of the entries
pub holds-permuted : {T : Type 0} {key : T → ℕ → ℕ → ℕ} {wait : ℕ → ℕ → ℕ} {network : DeclaredNetwork}
    {releases : List Release} {course : Course T} {entries other : List (Moment × Event)} → IsPermutation entries other
    → Holds key wait network releases course entries → Holds key wait network releases course other
holds-permuted {T} {key} {wait} {network} {releases} {course} {entries} {other} moved holds =
    let awaited = holds.awaited in
    let own : AreAwaited course other = record {
      each = All-permutation (λ (x : Moment × Event). moment_of course x.1 ≡ Some x.0) entries other moved awaited.each;
      there = λ event. IfSome_then (moment_of course event) (awaited.there event)
          (λ (m : Moment) c. Contains-permutation entries other (m, event) moved c);
      apart = AllPairs-permutation (λ (x y : Moment × Event). x.1 ≢ y.1) (λ x y n same. n (sym same)) entries
          other moved awaited.apart;
      reached = All-permutation (λ (x : Moment × Event). IsReached course.last x.0) entries other moved awaited.reached;
    } in
    record {
      rules = holds.rules;
      shape = holds.shape;
      frames = holds.frames;
      awaited = own;
      ports = holds.ports;
      paces = holds.paces;
      members = holds.members;
      groups = holds.groups;
      flows = holds.flows;
      bounds = record {
        last = holds.bounds.last;
        each = All-permutation (λ (x : Moment × Event). x.0.at.0 + all_left course ≤ horizon) entries other moved
            holds.bounds.each;
        ends = holds.bounds.ends;
      };
    }

-- there is one entry for each leg and each port at most
pub room-for-all : {T : Type 0} {key : T → ℕ → ℕ → ℕ} {wait : ℕ → ℕ → ℕ} {network : DeclaredNetwork}
    {releases : List Release} {course : Course T} {entries : List (Moment × Event)}
    → Holds key wait network releases course entries
    → length entries ≤ length course.records + length network.topology.ports
room-for-all {T} {key} {wait} {network} {releases} {course} {entries} holds =
    let Is : Moment × Event → Type 0 = λ (x : Moment × Event). moment_of course x.1 ≡ Some x.0 in
    let rows : ℕ = length course.stages in
    let all : ℕ = rows + length course.turns in
    let place : Moment × Event → ℕ = λ (x : Moment × Event). place_by rows x.1 in
    let each : All Is entries = holds.awaited.each in
    let own : (x : Moment × Event) → Is x → event_at course (place x) ≡ x.1 =
    λ (x : Moment × Event) is. at-place course x.1 x.0 is (is-within course x.1 x.0 is) in
    let apart : AllPairs (λ (x y : Moment × Event). place x ≢ place y) entries =
    λ i j d before within same. (
    let x : Moment × Event = slice_index_or entries i d in
    let y : Moment × Event = slice_index_or entries j d in
    holds.awaited.apart i j d before within
    (sym (own x (each i d (omega arith))) ∙ ap (event_at course) same ∙ own y (each j d within))) in
    let below : All (λ (x : Moment × Event). place x < all) entries = λ k d h. (
    let x : Moment × Event = slice_index_or entries k d in
    place-below course x.1 (is-within course x.1 x.0 (each k d h))) in
    let few : length (map place entries) ≤ all =
    numbers_below all (map place entries) (pairs-map (λ (a b : ℕ). a ≢ b) place entries apart)
    (All-map (λ (n : ℕ). n < all) place entries below) in
    omega (
      arith,
      length-map entries place,
      holds.shape.stages,
      holds.shape.turns,
    )

-- no two entries have one moment
pub moments-apart : {T : Type 0} {key : T → ℕ → ℕ → ℕ} {wait : ℕ → ℕ → ℕ} {network : DeclaredNetwork}
    {releases : List Release} {course : Course T} {entries : List (Moment × Event)}
    → Holds key wait network releases course entries
    → AllPairs (λ (x y : Moment × Event). x.0 ≢ y.0) entries
moments-apart {T} {key} {wait} {network} {releases} {course} {entries} holds i j d before within same =
    let x : Moment × Event = slice_index_or entries i d in
    let y : Moment × Event = slice_index_or entries j d in
    let one : IsOf x.1 x.0 = is-of course x.1 x.0 (holds.awaited.each i d (omega arith)) in
    let two : IsOf y.1 y.0 = is-of course y.1 y.0 (holds.awaited.each j d within) in
    holds.awaited.apart i j d before within
    (same-event x.1 y.1 (sym one.phase ∙ ap (λ (m : Moment). m.phase) same ∙ two.phase)
    (sym one.number ∙ ap (λ (m : Moment). m.id) same ∙ two.number))

-- the numbers of each moment fit their types
pub moments-in-range : {T : Type 0} {key : T → ℕ → ℕ → ℕ} {wait : ℕ → ℕ → ℕ} {network : DeclaredNetwork}
    {releases : List Release} {course : Course T} {entries : List (Moment × Event)}
    → Holds key wait network releases course entries
    → All (λ (x : Moment × Event). IsInRange x.0) entries
moments-in-range {T} {key} {wait} {network} {releases} {course} {entries} holds k d h =
    let x : Moment × Event = slice_index_or entries k d in
    let is : moment_of course x.1 ≡ Some x.0 = holds.awaited.each k d h in
    let own : IsOf x.1 x.0 = is-of course x.1 x.0 is in
    let few : number_of x.1 < length course.stages + length course.turns =
    number-below course x.1 (is-within course x.1 x.0 is) in
    let phase : phase_of x.1 < 4 = phase-below x.1 in
    let time : x.0.at.0 + all_left course ≤ horizon = holds.bounds.each k d h in
    let ports : length network.topology.ports ≤ 2 * MAX_LINKS = omega (
      arith,
      (ports_are_lawful network.topology holds.rules.topology).two_each,
      holds.rules.topology.few_links,
    ) in
    let rows : length course.records ≤ MAX_HOPS =
    rows-few holds.rules holds.shape (λ r within. (holds.frames r within).sender) in
    record {
      at = omega arith;
      phase = omega (arith, own.phase);
      id = omega (arith, own.number, rows, holds.shape.stages, holds.shape.turns);
    }

-- a moment that is before another one by a lawful order is not after it by time and phase
pub before-is-reached : (before : Moment → Moment → Type 0) → IsIrreflexive before → IsTransitive before
    → IsTimed before → (now next : Moment) → IsInRange now → IsInRange next → before now next → IsReached now next
before-is-reached before irreflexive transitive timed now next hn hx first =
    let never : before next now → ⊥ = λ back. irreflexive now hn (transitive now next now hn hx hn first back) in
    record {
      time = elim (cases_lt next.at.0 now.at.0) as (λ _. now.at.0 ≤ next.at.0) [
        | inl earlier ↦ absurd (never (timed.time next now hx hn earlier))
        | inr later ↦ later
      ];
      phase = λ same. elim (cases_lt next.phase now.phase) as (λ _. now.phase ≤ next.phase) [
        | inl earlier ↦ absurd (never (timed.phase next now hx hn (sym same) earlier))
        | inr later ↦ later
      ];
    }
