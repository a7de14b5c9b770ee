use Rattle.std.proofs.Common.{◌≡◌, ℕ, ◌+◌, ◌-◌, ◌<◌, ◌≤◌, Bool, true, false, List, [], ◌∷◌, ◌++◌, length, get_or, set}
use Rattle.std.proofs.Common.{All, Option, Some, inl, inr, sym, ap, ◌∙◌, subst, arith, refl}
use Rattle.std.specs.Prelude.{◌≢◌, ◌⊎◌, ◌==◌, sum_by}
use Rattle.std.specs.List.{zip}
use Rattle.std.proofs.lemmas.List.{length-append, length-set}
use Rattle.std.proofs.lemmas.List.Elements.{All-append, All-cons, All-head, All-nil, All-tail}
use Rattle.std.proofs.lemmas.List.Sorted.{All-permutation, IsPermutation-sym}
use Rattle.std.proofs.lemmas.Option.{none-some, same_Some}
use Rattle.ats_facts.proofs.Lists.{pairs_head}
use Rattle.ats_num.specs.Pace.{WaitsWithin}
use Rattle.ats_num.specs.declared.time.Ps.{Ps}
use Rattle.ats_num.specs.declared.time.TheConstants.{PS_PER_SECOND}
use Rattle.ats_topology.specs.Port.{port_at}
use Rattle.ats_topology.specs.declared.port.Port.{Port}
use Rattle.ats_network.specs.Network.{DeclaredNetwork}
use Rattle.ats_group.specs.Judge.{OnEligible}
use Rattle.ats_group.specs.declared.verdict.Verdict.{Verdict}
use Rattle.ats_group.specs.declared.verdict.Verdict.TheVariants.{Eligible, Late, Size}
use Rattle.ats_transmit.specs.Picks.{MaySend}
use Rattle.ats_transmit.specs.Sending.{last_end}
use Rattle.ats_transmit.specs.State.{PortState, opened}
use Rattle.ats_transmit.specs.declared.offer.Offer.{Offer}
use Rattle.ats_events.specs.declared.moment.Moment.{Moment}
use Rattle.ats_trace.specs.Links.{ArrivesWithin}
use Rattle.ats_trace.specs.Projections.{Crossing}
use Rattle.ats_trace.specs.declared.journey.Ending.TheVariants.{Sink}
use Rattle.ats_trace.specs.declared.journey.Release.{Release}
use Rattle.ats_run_records.specs.Progress.{Progress, progress_at, last_hop, with_ending, with_hop, with_sent}
use Rattle.ats_engine_steps.specs.Bounds.{EndsInTime, all_left, events_left, horizon, most_latency, most_left}
use Rattle.ats_engine_steps.specs.Bounds.{most_sending}
use Rattle.ats_engine_steps.specs.Bounds.{ports_left, steps_left}
use Rattle.ats_engine_steps.specs.Course.{Course, crossings_so_far, path_of, stage_at, turn_at}
use Rattle.ats_engine_steps.specs.Entries.{arrival_moment, eligible_moment, selection_moment}
use Rattle.ats_engine_steps.specs.Ports.{IsTurn, port_state_at}
use Rattle.ats_engine_steps.specs.Steps.{Comes, BecomesEligible, Selects, Move, came, due_by, due_entries}
use Rattle.ats_engine_steps.specs.Steps.{rows_next, selections, selections_once_offered, set_each, stage_by}
use Rattle.ats_engine_steps.specs.declared.event.Event.{Event}
use Rattle.ats_engine_steps.specs.declared.event.Event.TheVariants.{Arrival, Eligibility, Selection}
use Rattle.ats_engine_steps.specs.declared.stage.Stage.{Stage}
use Rattle.ats_engine_steps.specs.declared.stage.Stage.TheVariants.{Apart, Coming, Due, Waiting}
use Rattle.ats_engine_steps.specs.declared.turn.Turn.{Turn}
use Rattle.ats_engine_steps.specs.declared.turn.Turn.TheVariants.{Resting, Selecting}
use Rattle.ats_engine_proofs.specs.Next.{IsEligibleNow, IsNext}
use Rattle.ats_engine_proofs.proofs.Allowed.{may-come}
use Rattle.ats_engine_proofs.proofs.Begun.{IsApart, next-or-apart, rows_begun}
use Rattle.ats_engine_proofs.proofs.Entries.{left_by}
use Rattle.ats_engine_proofs.proofs.Fates.{of-due}
use Rattle.ats_engine_proofs.proofs.Lasting.{selects-soon}
use Rattle.ats_engine_proofs.proofs.Left.{left-after, left-entered}
use Rattle.ats_engine_proofs.proofs.Now.{next-port, next-reached}
use Rattle.ats_engine_proofs.proofs.Paces.{selects-paces}
use Rattle.ats_engine_proofs.proofs.PortSteps.{offered-at, offered-within, selects-last}
use Rattle.ats_engine_proofs.proofs.Stages.{next-coming, next-due, stage-within}
use Rattle.ats_engine_proofs.proofs.Standing.{at-set, selecting-within}
use Rattle.ats_engine_proofs.proofs.Travels.{selects-crossing, selects-stage}
use Rattle.ats_engine_proofs.proofs.Verdicts.{IsSoon, soon_now}

-- the bounds hold after a step by which no more is left, where they hold of its entries and of the ports
in-time : {T : Type 0} {old : Course T} {own : Moment} {event : Event} {entries : List (Moment × Event)}
    (new : Course T) (more : List (Moment × Event)) → EndsInTime old ((own, event) ∷ entries)
    → new.last.at ≡ own.at → all_left new ≤ all_left old
    → All (λ (x : Moment × Event). x.0.at.0 + all_left new ≤ horizon) more
    → All (λ (s : PortState T). last_end s.sent + all_left new ≤ horizon) new.ports
    → EndsInTime new (more ++ entries)
in-time {T} {old} {own} {event} {entries} new more bounds last less each ends =
    let InTime : ℕ → Moment × Event → Type 0 = λ (left : ℕ) (x : Moment × Event). x.0.at.0 + left ≤ horizon in
    let first : own.at.0 + all_left old ≤ horizon =
    All-head (InTime (all_left old)) (own, event) entries bounds.each in
    let others : All (InTime (all_left old)) entries =
    All-tail (InTime (all_left old)) (own, event) entries bounds.each in
    let same : new.last.at.0 ≡ own.at.0 = ap (λ (at : Ps). at.0) last in
    record {
      last = omega arith;
      each = All-append (InTime (all_left new)) more entries each (λ k d h. omega (arith, others k d h));
      ends = ends;
    }

-- they hold of entries that go no further than the next event
near-entries : {T : Type 0} {key : T → ℕ → ℕ → ℕ} {wait : ℕ → ℕ → ℕ} {network : DeclaredNetwork}
    {releases : List Release} {old : Course T} {now : Moment} {event : Event} {entries : List (Moment × Event)}
    (new : Course T) (more : List (Moment × Event)) (was is : ℕ)
    → IsNext key wait network releases old now event entries → all_left new + was ≤ all_left old + is
    → All (λ (x : Moment × Event). x.0.at.0 + is ≤ now.at.0 + was) more
    → All (λ (x : Moment × Event). x.0.at.0 + all_left new ≤ horizon) more
near-entries {T} {key} {wait} {network} {releases} {old} {now} {event} {entries} new more was is next moved each k d h =
    let first : now.at.0 + all_left old ≤ horizon =
    All-head (λ (x : Moment × Event). x.0.at.0 + all_left old ≤ horizon) (now, event) entries
    next.holds.bounds.each in
    omega (arith, each k d h)

-- and of ports that stay as they were
same-ports : {T : Type 0} {key : T → ℕ → ℕ → ℕ} {wait : ℕ → ℕ → ℕ} {network : DeclaredNetwork}
    {releases : List Release} {old : Course T} {now : Moment} {event : Event} {entries : List (Moment × Event)}
    (new : Course T) → IsNext key wait network releases old now event entries → new.ports ≡ old.ports
    → all_left new ≤ all_left old → All (λ (s : PortState T). last_end s.sent + all_left new ≤ horizon) new.ports
same-ports {T} {key} {wait} {network} {releases} {old} new next same less =
    subst (All (λ (s : PortState T). last_end s.sent + all_left new ≤ horizon)) (sym same)
    (λ k d h. omega (arith, next.holds.bounds.ends k d h))

-- also where one stands differently, of which they hold
set-ports : {T : Type 0} {old : Course T} {entries : List (Moment × Event)} (new : Course T) (port : ℕ)
    (standing : PortState T) → EndsInTime old entries → new.ports ≡ set old.ports port standing
    → all_left new ≤ all_left old → last_end standing.sent + all_left new ≤ horizon
    → All (λ (s : PortState T). last_end s.sent + all_left new ≤ horizon) new.ports
set-ports {T} {old} new port standing bounds same less ends =
    let InTime : PortState T → Type 0 = λ (s : PortState T). last_end s.sent + all_left new ≤ horizon in
    subst (All InTime) (sym same) (λ k d h.
    at-set InTime old.ports port standing k d ends (omega (
      arith,
      bounds.ends k d (omega (arith, h, length-set old.ports port standing)),
    )))

-- a move of a frame that is sent, which takes no more than before but for its transmission, and whose entry goes no
-- further
record TakesLess (now : ℕ) (was : Stage) (p : Progress) (m : Move) : Type 0 where
  moves : most_left (m.stage, m.progress) + most_sending ≤ most_left (was, p)
  each : All (λ (x : Moment × Event). x.0.at.0 + most_left (m.stage, m.progress) ≤ now + most_left (was, p)) m.entries
  events : events_left (m.stage, m.progress) < events_left (was, p)

-- a frame that comes takes no more than before, along the leg and along those that begin there, and becomes eligible in
-- time
record ComesLess (now : Ps) (p : Progress) (v : Verdict) : Type 0 where
  time : most_left (stage_by v, with_hop p (came now v)) ≤ most_left (Coming now, p)
  apart : most_left (stage_by v, with_hop p (came now v)) ≤ most_left (Apart, p)
  due : (e : Ps) → due_by v ≡ Some e
      → e.0 + most_left (stage_by v, with_hop p (came now v)) ≤ now.0 + most_left (Coming now, p)
  events : events_left (stage_by v, with_hop p (came now v)) < events_left (Coming now, p)
  events_apart : events_left (stage_by v, with_hop p (came now v)) ≤ events_left (Apart, p)

comes-less-left : (p : Progress) (now : Ps) (v : Verdict) → OnEligible v (IsSoon now.0) → length p.hops < p.room
    → ComesLess now p v
comes-less-left p now (Eligible e) soon fewer =
    let long = length-append p.hops (came now (Eligible e) ∷ []) in
    let late : e.0 ≤ now.0 + PS_PER_SECOND = soon.1 in
    let q : Progress = with_hop p (came now (Eligible e)) in
    let ports : ports_left p ≡ ports_left q + 1 = omega arith in
    record {
      time = omega arith;
      apart = omega arith;
      due = λ at is. (let same : e.0 ≡ at.0 = ap (λ (x : Ps). x.0) (same_Some e at is) in omega arith);
      events = omega arith;
      events_apart = omega arith;
    }
comes-less-left p now (Late e) soon fewer = record {
  time = omega arith;
  apart = omega arith;
  due = λ at is. absurd (none-some at is);
  events = omega arith;
  events_apart = omega arith;
}
comes-less-left p now Size soon fewer = record {
  time = omega arith;
  apart = omega arith;
  due = λ at is. absurd (none-some at is);
  events = omega arith;
  events_apart = omega arith;
}

-- so does the next frame that comes, along each leg to which it comes
comes-takes : {T : Type 0} {key : T → ℕ → ℕ → ℕ} {wait : ℕ → ℕ → ℕ} {network : DeclaredNetwork}
    {releases : List Release} {old new : Course T} {now : Moment} {row : ℕ} {entries : List (Moment × Event)}
    {due : Option Ps} → IsNext key wait network releases old now (Arrival row) entries
    → (step : Comes network old new now row due)
    → All (λ (n : ℕ). ComesLess now.at (progress_at old.records n) step.verdict) (rows_next network old row)
comes-takes {T} {key} {wait} {network} {releases} {old} {new} {now} {row} next step k d h =
    let p : Progress = progress_at old.records row in
    let n : ℕ = get_or (rows_next network old row) k d in
    comes-less-left (progress_at old.records n) now.at step.verdict
    (subst (λ (v : Verdict). OnEligible v (IsSoon now.at.0)) (sym step.judged)
    (soon_now network old.groups p now.at.0 next.holds.rules next.holds.members))
    ((may-come next).next k d h).more

-- what is left after a frame came, where no leg that begins there takes more than before
comes-left : {T : Type 0} {key : T → ℕ → ℕ → ℕ} {wait : ℕ → ℕ → ℕ} {network : DeclaredNetwork}
    {releases : List Release} {old new : Course T} {now : Moment} {row : ℕ} {entries : List (Moment × Event)}
    {due : Option Ps} (f : Stage × Progress → ℕ)
    → IsNext key wait network releases old now (Arrival row) entries → (step : Comes network old new now row due)
    → All (λ (n : ℕ). f (stage_by step.verdict, with_hop (progress_at old.records n) (came now.at step.verdict))
    ≤ f (Apart, progress_at old.records n)) (rows_next network old row)
    → sum_by f (zip new.stages new.records) + f (Coming now.at, progress_at old.records row)
    ≤ sum_by f (zip old.stages old.records)
    + f (stage_by step.verdict, with_hop (progress_at old.records row) (came now.at step.verdict))
comes-left {T} {key} {wait} {network} {releases} {old} {new} {now} {row} f next step less =
    let may = may-come next in
    let s : Stage = stage_by step.verdict in
    let set_to : ℕ → Progress = λ (n : ℕ). with_hop (progress_at old.records n) (came now.at step.verdict) in
    let others : List ℕ = rows_begun network old row in
    let Less : ℕ → Type 0 = λ (n : ℕ). f (s, set_to n) ≤ f (Apart, progress_at old.records n) in
    let differ : All (λ (m : ℕ). row ≢ m) others = pairs_head (λ (n m : ℕ). n ≢ m) row others may.apart in
    let Known : ℕ → Type 0 = λ (n : ℕ). (n ≡ row) ⊎ IsApart network old n in
    left-entered f old new row others (Coming now.at) s set_to next.holds.shape.stages
    (λ k d h. (may.next k d h).within) may.apart (next-coming next)
    (ap (λ (c : Course T). c.stages) step.becomes
    ∙ ap (λ (ns : List ℕ). set_each ns (λ (n : ℕ). s) old.stages) step.next)
    (ap (λ (c : Course T). c.records) step.becomes
    ∙ ap (λ (ns : List ℕ). set_each ns set_to old.records) step.next)
    (λ k d h. elim (All-tail Known row others (next-or-apart next.holds row may.may_come.room.within) k d h)
    as (λ _. f (s, set_to (get_or others k d))
    ≤ f (stage_at old (get_or others k d), progress_at old.records (get_or others k d))) [
      | inl same ↦ absurd (differ k d h (sym same))
      | inr apart ↦ subst (λ (t : Stage). f (s, set_to (get_or others k d))
          ≤ f (t, progress_at old.records (get_or others k d))) (sym apart.stage)
          (All-tail Less row others less k d h)
    ])

-- the bounds hold after a frame came
pub comes-bounds : {T : Type 0} {key : T → ℕ → ℕ → ℕ} {wait : ℕ → ℕ → ℕ} {network : DeclaredNetwork}
    {releases : List Release} {old new : Course T} {now : Moment} {row : ℕ} {entries : List (Moment × Event)}
    {due : Option Ps} → IsNext key wait network releases old now (Arrival row) entries
    → Comes network old new now row due → EndsInTime new (due_entries due (rows_next network old row) ++ entries)
comes-bounds {T} {key} {wait} {network} {releases} {old} {new} {now} {row} {entries} {due} next step =
    let p : Progress = progress_at old.records row in
    let rows : List ℕ = rows_next network old row in
    let q : Progress = with_hop p (came now.at step.verdict) in
    let was : ℕ = most_left (Coming now.at, p) in
    let is : ℕ = most_left (stage_by step.verdict, q) in
    let each = comes-takes next step in
    let takes : ComesLess now.at p step.verdict =
    All-head (λ (n : ℕ). ComesLess now.at (progress_at old.records n) step.verdict) row (rows_begun network old row)
    each in
    let left : all_left new + was ≤ all_left old + is =
    comes-left most_left next step (λ k d h. (each k d h).apart) in
    let less : all_left new ≤ all_left old = omega (arith, left, takes.time) in
    in-time new (due_entries due rows) next.holds.bounds (ap (λ (c : Course T). c.last.at) step.becomes) less
    (near-entries new (due_entries due rows) was is next left
    (of-due (λ (x : Moment × Event). x.0.at.0 + is ≤ now.at.0 + was) due rows
    (λ e at k d h. takes.due e (sym step.brings ∙ at))))
    (same-ports new next (ap (λ (c : Course T). c.ports) step.becomes) less)

-- and fewer steps are left
pub comes-less : {T : Type 0} {key : T → ℕ → ℕ → ℕ} {wait : ℕ → ℕ → ℕ} {network : DeclaredNetwork}
    {releases : List Release} {old new : Course T} {now : Moment} {row : ℕ} {entries : List (Moment × Event)}
    {due : Option Ps} → IsNext key wait network releases old now (Arrival row) entries
    → Comes network old new now row due → steps_left new < steps_left old
comes-less {T} {key} {wait} {network} {releases} {old} {new} {now} {row} next step =
    let each = comes-takes next step in
    let takes : ComesLess now.at (progress_at old.records row) step.verdict =
    All-head (λ (n : ℕ). ComesLess now.at (progress_at old.records n) step.verdict) row (rows_begun network old row)
    each in
    let left = comes-left events_left next step (λ k d h. (each k d h).events_apart) in
    let fewer = takes.events in
    omega (arith, left, fewer)

-- what is left after a frame became eligible
offered-left : {T : Type 0} {key : T → ℕ → ℕ → ℕ} {wait : ℕ → ℕ → ℕ} {network : DeclaredNetwork}
    {releases : List Release} {old new : Course T} {now : Moment} {row : ℕ} {entries more : List (Moment × Event)}
    (f : Stage × Progress → ℕ) → IsEligibleNow key wait network releases old now row entries
    → BecomesEligible key network old new now row more
    → sum_by f (zip new.stages new.records) + f (Due now.at, progress_at old.records row)
    ≡ sum_by f (zip old.stages old.records) + f (Waiting, progress_at old.records row)
offered-left {T} {key} {wait} {network} {releases} {old} {new} {now} {row} f next step =
    let was = next-due next in
    let even = next.holds.shape.stages in
    left-after f old new row (Due now.at) Waiting (progress_at old.records row) even
    (stage-within old row (Due now.at) even was (λ e. cc)) was (ap (λ (c : Course T). c.stages) step.becomes)
    (ap (λ (c : Course T). c.records) step.becomes)

-- a selection that it brings is in time
offered-in_time : (left port : ℕ) (at : Ps) (t : Turn) → (t ≡ Resting → at.0 + left ≤ horizon)
    → All (λ (x : Moment × Event). x.0.at.0 + left ≤ horizon) (selections_once_offered port t at)
offered-in_time left port at Resting in_time =
    All-cons (λ (x : Moment × Event). x.0.at.0 + left ≤ horizon) (selection_moment port at, Selection port) []
    (in_time refl) (All-nil (λ (x : Moment × Event). x.0.at.0 + left ≤ horizon))
offered-in_time left port at (Selecting time) in_time = All-nil (λ (x : Moment × Event). x.0.at.0 + left ≤ horizon)

-- the bounds hold after a frame became eligible
pub offered-bounds : {T : Type 0} {key : T → ℕ → ℕ → ℕ} {wait : ℕ → ℕ → ℕ} {network : DeclaredNetwork}
    {releases : List Release} {old new : Course T} {now : Moment} {row : ℕ} {entries more : List (Moment × Event)}
    → IsEligibleNow key wait network releases old now row entries
    → BecomesEligible key network old new now row more → EndsInTime new (more ++ entries)
offered-bounds {T} {key} {wait} {network} {releases} {old} {new} {now} {row} {entries} {more} next step =
    let s : PortState T = port_state_at old step.port in
    let InTime : Moment × Event → Type 0 = λ (x : Moment × Event). x.0.at.0 + all_left new ≤ horizon in
    let less : all_left new ≤ all_left old = omega (arith, offered-left most_left next step) in
    let first : now.at.0 + all_left old ≤ horizon =
    All-head (λ (x : Moment × Event). x.0.at.0 + all_left old ≤ horizon)
    (eligible_moment row now.at, Eligibility row) entries next.holds.bounds.each in
    let within : step.port < length old.ports = omega (arith, offered-within next step, next.holds.shape.ports) in
    let ends : last_end s.sent + all_left old ≤ horizon =
    next.holds.bounds.ends step.port (opened 0 [] old.tie) within in
    let same : last_end step.standing.sent ≡ last_end s.sent =
    ap (λ (t : PortState T). last_end t.sent) step.rest in
    in-time new more next.holds.bounds (ap (λ (c : Course T). c.last.at) step.becomes) less
    (subst (All InTime) (sym step.brings)
    (offered-in_time (all_left new) step.port step.at (turn_at old step.port)
    (λ rests. (let at = offered-at next step rests in omega (arith, at, first, ends, less)))))
    (set-ports new step.port step.standing next.holds.bounds (ap (λ (c : Course T). c.ports) step.becomes) less
    (omega (arith, same, ends, less)))

-- and fewer steps are left
pub offered-less : {T : Type 0} {key : T → ℕ → ℕ → ℕ} {wait : ℕ → ℕ → ℕ} {network : DeclaredNetwork}
    {releases : List Release} {old new : Course T} {now : Moment} {row : ℕ} {entries more : List (Moment × Event)}
    → IsEligibleNow key wait network releases old now row entries
    → BecomesEligible key network old new now row more → steps_left new < steps_left old
offered-less next step = let left = offered-left events_left next step in omega arith

-- what is left after a selection
selects-left : {T : Type 0} {key : T → ℕ → ℕ → ℕ} {wait : ℕ → ℕ → ℕ} {network : DeclaredNetwork}
    {releases : List Release} {old new : Course T} {now : Moment} {port : ℕ} {entries more : List (Moment × Event)}
    (f : Stage × Progress → ℕ) → IsNext key wait network releases old now (Selection port) entries
    → (step : Selects key wait network old new now port more)
    → sum_by f (zip new.stages new.records) + f (Waiting, progress_at old.records step.row)
    ≡ sum_by f (zip old.stages old.records) + f (step.move.stage, step.move.progress)
selects-left {T} {key} {wait} {network} {releases} {old} {new} {now} {port} f next step =
    let was : stage_at old step.row ≡ Waiting = selects-stage next step in
    let even = next.holds.shape.stages in
    left-after f old new step.row Waiting step.move.stage step.move.progress even
    (stage-within old step.row Waiting even was (λ e. cc)) was (ap (λ (c : Course T). c.stages) step.becomes)
    (ap (λ (c : Course T). c.records) step.becomes)

-- a frame that is sent has come to as many ports as before
sent-ports : (p : Progress) (start end : Ps) → ports_left (with_sent p start end) ≡ ports_left p
sent-ports p start end =
    ap (λ (n : ℕ). p.room - n)
    (length-set p.hops (length p.hops - 1) (record (last_hop p) { sent = Some (start, end) }))

-- it arrives within the latency of its port
arrives-soon : {T : Type 0} {key : T → ℕ → ℕ → ℕ} {wait : ℕ → ℕ → ℕ} {network : DeclaredNetwork}
    {releases : List Release} {old new : Course T} {now : Moment} {port : ℕ} {entries more : List (Moment × Event)}
    → WaitsWithin wait → IsNext key wait network releases old now (Selection port) entries
    → (step : Selects key wait network old new now port more) → step.arrival.0 ≤ step.end.0 + most_latency
arrives-soon {T} {key} {wait} {network} {releases} {old} {new} {now} {port} within next step =
    let below : port < length network.topology.ports = selecting-within next in
    let link : Port = port_at network.topology.ports port in
    let here = selects-crossing next step in
    let x : Crossing = here.0 in
    let Within : Crossing → Type 0 = ArrivesWithin link.earliest.0 link.latency.0 in
    let before : List Crossing = crossings_so_far network old port in
    let after : List Crossing = crossings_so_far network new port in
    let arrives : Within x = All-head Within x before
    (All-permutation Within after (x ∷ before) (IsPermutation-sym (x ∷ before) after here.2)
    (selects-paces within next step port below).rule.within) in
    omega (arith, arrives.latest, here.1.ends, here.1.arrives, (next-port next port below).latency)

-- so the move takes less than the frame did that waited
leaves-less : (row : ℕ) (p q : Progress) (now : ℕ) (at : Ps) (last : Bool) → ports_left q ≡ ports_left p
    → at.0 ≤ now + most_sending + most_latency
    → TakesLess now Waiting p (left_by row (with_ending q (Sink at)) q at last)
leaves-less row p q now at true same soon = record {
  moves = omega arith;
  each = All-nil (λ (x : Moment × Event). x.0.at.0 + 0 ≤ now + most_left (Waiting, p));
  events = omega arith;
}
leaves-less row p q now at false same soon =
    let Near : Moment × Event → Type 0 = λ (x : Moment × Event). x.0.at.0 + most_left (Coming at, q)
    ≤ now + most_left (Waiting, p) in
    record {
      moves = omega arith;
      each = All-cons Near (arrival_moment row at, Arrival row) [] (omega arith) (All-nil Near);
      events = omega arith;
    }

-- so does the next selection
selects-takes : {T : Type 0} {key : T → ℕ → ℕ → ℕ} {wait : ℕ → ℕ → ℕ} {network : DeclaredNetwork}
    {releases : List Release} {old new : Course T} {now : Moment} {port : ℕ} {entries more : List (Moment × Event)}
    → WaitsWithin wait → IsNext key wait network releases old now (Selection port) entries
    → (step : Selects key wait network old new now port more)
    → TakesLess now.at.0 Waiting (progress_at old.records step.row) step.move
selects-takes {T} {key} {wait} {network} {releases} {old} {new} {now} {port} within next step =
    let p : Progress = progress_at old.records step.row in
    let q : Progress = with_sent p now.at step.end in
    subst (TakesLess now.at.0 Waiting p) (sym step.is)
    (leaves-less step.row p q now.at.0 step.arrival (length q.hops == length (path_of network q))
    (sent-ports p now.at step.end) (omega (arith, arrives-soon within next step, selects-soon next step)))

-- a port that holds frames selects the next one once its transmission has ended
selects-again : {T : Type 0} (standing : PortState T) (turn : Turn) (end port : ℕ) → IsTurn standing turn
    → last_end standing.sent ≤ end → All (λ (o : Offer). o.eligible.0 ≤ end) standing.held
    → All (λ (x : Moment × Event). x.0.at.0 ≤ end) (selections port turn)
selects-again standing Resting end port next free eligible = All-nil (λ (x : Moment × Event). x.0.at.0 ≤ end)
selects-again standing (Selecting at) end port next free eligible =
    let one = next.reached.eligible in
    let may : MaySend standing.held standing.sent end = record {
      free = free;
      eligible = (
        one.0,
        one.1,
        one.2,
        one.3,
        subst (λ (o : Offer). o.eligible.0 ≤ end) one.3 (eligible one.0 one.1 one.2),
      );
    } in
    All-cons (λ (x : Moment × Event). x.0.at.0 ≤ end) (selection_moment port at, Selection port) []
    (next.first end may) (All-nil (λ (x : Moment × Event). x.0.at.0 ≤ end))

-- all frames that it holds were eligible by now
still-eligible : {T : Type 0} {key : T → ℕ → ℕ → ℕ} {wait : ℕ → ℕ → ℕ} {network : DeclaredNetwork}
    {releases : List Release} {old new : Course T} {now : Moment} {port : ℕ} {entries more : List (Moment × Event)}
    → IsNext key wait network releases old now (Selection port) entries
    → (step : Selects key wait network old new now port more)
    → All (λ (o : Offer). o.eligible.0 ≤ now.at.0) step.standing.held
still-eligible {T} {key} {wait} {network} {releases} {old} {new} {now} {port} next step =
    let s : PortState T = port_state_at old port in
    let Eligible : Offer → Type 0 = λ (o : Offer). o.eligible.0 ≤ now.at.0 in
    let reached : old.last.at.0 ≤ now.at.0 = (next-reached next).time in
    let eligible = (next.holds.ports port (selecting-within next)).times.eligible in
    let before : All Eligible s.held = λ k d h. omega (arith, eligible k d h) in
    subst (λ (t : PortState T). All Eligible t.held) (sym step.finished)
    (All-tail Eligible step.starts.started step.sending.held
    (All-permutation Eligible s.held (step.starts.started ∷ step.sending.held) step.starts.held before))

-- the bounds hold after a selection
pub selects-bounds : {T : Type 0} {key : T → ℕ → ℕ → ℕ} {wait : ℕ → ℕ → ℕ} {network : DeclaredNetwork}
    {releases : List Release} {old new : Course T} {now : Moment} {port : ℕ} {entries more : List (Moment × Event)}
    → WaitsWithin wait → IsNext key wait network releases old now (Selection port) entries
    → Selects key wait network old new now port more → EndsInTime new (more ++ entries)
selects-bounds {T} {key} {wait} {network} {releases} {old} {new} {now} {port} {entries} {more} within next step =
    let p : Progress = progress_at old.records step.row in
    let was : ℕ = most_left (Waiting, p) in
    let is : ℕ = most_left (step.move.stage, step.move.progress) in
    let takes = selects-takes within next step in
    let Near : Moment × Event → Type 0 = λ (x : Moment × Event). x.0.at.0 + is ≤ now.at.0 + was in
    let later : now.at.0 ≤ step.end.0 = omega (arith, step.starts.ends) in
    let soon : step.end.0 ≤ now.at.0 + most_sending = selects-soon next step in
    let last : last_end step.standing.sent ≡ step.end.0 = selects-last step in
    let move : is + most_sending ≤ was = takes.moves in
    let eligible = still-eligible next step in
    let again : All (λ (x : Moment × Event). x.0.at.0 ≤ step.end.0) (selections port step.turn) =
    selects-again step.standing step.turn step.end.0 port step.next (omega arith)
    (λ k d h. omega (arith, eligible k d h, later)) in
    let left : all_left new + was ≡ all_left old + is = selects-left most_left next step in
    let less : all_left new ≤ all_left old = omega (arith, left, move) in
    let first : now.at.0 + all_left old ≤ horizon =
    All-head (λ (x : Moment × Event). x.0.at.0 + all_left old ≤ horizon) (now, Selection port) entries
    next.holds.bounds.each in
    in-time new more next.holds.bounds (ap (λ (c : Course T). c.last.at) step.becomes) less
    (near-entries new more was is next (omega (arith, left))
    (subst (λ (es : List (Moment × Event)). All Near es) (sym step.brings)
    (All-append Near step.move.entries (selections port step.turn) takes.each
    (λ k d h. omega (arith, again k d h, soon, move)))))
    (set-ports new port step.standing next.holds.bounds (ap (λ (c : Course T). c.ports) step.becomes) less
    (omega (arith, last, soon, left, move, first)))

-- and fewer steps are left
pub selects-less : {T : Type 0} {key : T → ℕ → ℕ → ℕ} {wait : ℕ → ℕ → ℕ} {network : DeclaredNetwork}
    {releases : List Release} {old new : Course T} {now : Moment} {port : ℕ} {entries more : List (Moment × Event)}
    → WaitsWithin wait → IsNext key wait network releases old now (Selection port) entries
    → Selects key wait network old new now port more → steps_left new < steps_left old
selects-less {T} {key} {wait} {network} {releases} {old} {new} {now} {port} within next step =
    let left = selects-left events_left next step in
    let fewer = (selects-takes within next step).events in
    omega (arith, left, fewer)
