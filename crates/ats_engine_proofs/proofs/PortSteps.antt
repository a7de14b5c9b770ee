-- The port that a step is of.
use Rattle.std.proofs.Common.{◌≡◌, ℕ, ◌<◌, true, false, List, [], length, All, Option, ap, ◌∙◌, max}
use Rattle.std.proofs.Common.{refl, sym, subst, arith}
use Rattle.std.specs.Prelude.{◌≢◌}
use Rattle.std.proofs.lemmas.List.{get_or-set_same}
use Rattle.ats_num.specs.declared.time.Ps.{Ps}
use Rattle.ats_network.specs.Network.{DeclaredNetwork}
use Rattle.ats_events.specs.declared.moment.Moment.{Moment}
use Rattle.ats_events.specs.declared.phase.TheConstants.{SELECTION}
use Rattle.ats_transmit.specs.Picks.{IsFirstStart}
use Rattle.ats_transmit.specs.Sending.{last_end, sent_at}
use Rattle.ats_transmit.specs.State.{PortState, opened, IsLawfulPort}
use Rattle.ats_transmit.specs.declared.offer.Offer.{Offer}
use Rattle.ats_transmit.specs.declared.sent.Sent.{Sent}
use Rattle.ats_trace.specs.HopRecord.{HopRecord}
use Rattle.ats_trace.specs.declared.journey.Release.{Release}
use Rattle.ats_run_records.specs.Progress.{Progress, progress_at, no_progress, last_hop, with_sent}
use Rattle.ats_engine_steps.specs.Course.{Course, path_of, stage_at, turn_at, offer_at}
use Rattle.ats_engine_steps.specs.Course.{eligibility_of}
use Rattle.ats_engine_steps.specs.Frames.{IsAtStage, IsDueAt, start_of}
use Rattle.ats_engine_steps.specs.Ports.{IsTurn, IsPortOf, port_state_at}
use Rattle.ats_engine_steps.specs.Steps.{Move, leaves_for, turn_once_offered}
use Rattle.ats_engine_steps.specs.Steps.{BecomesEligible, Selects}
use Rattle.ats_engine_steps.specs.declared.event.Event.{Event}
use Rattle.ats_engine_steps.specs.declared.event.Event.TheVariants.{Selection}
use Rattle.ats_engine_steps.specs.declared.stage.Stage.TheVariants.{Due, Waiting, Over}
use Rattle.ats_engine_steps.specs.declared.turn.Turn.{Turn}
use Rattle.ats_engine_steps.specs.declared.turn.Turn.TheVariants.{Resting}
use Rattle.ats_engine_proofs.specs.Next.{IsEligibleNow, IsNext}
use Rattle.ats_engine_proofs.proofs.Allowed.{may-be-offered, waiting-stands}
use Rattle.ats_engine_proofs.proofs.Away.{between-away, leaves-between, leaves-release}
use Rattle.ats_engine_proofs.proofs.Moving.{selecting-phase, last-stands, changes-one}
use Rattle.ats_engine_proofs.proofs.Now.{next-reached}
use Rattle.ats_engine_proofs.proofs.OnePlace.{standing-one}
use Rattle.ats_engine_proofs.proofs.Placed.{IsStanding, standing-place}
use Rattle.ats_engine_proofs.proofs.PortKept.{IsAway}
use Rattle.ats_engine_proofs.proofs.PortLists.{last-push}
use Rattle.ats_engine_proofs.proofs.PortOffered.{IsOffering, port-offered, rested-at}
use Rattle.ats_engine_proofs.proofs.PortStarted.{IsStarting, once_started, port-started}
use Rattle.ats_engine_proofs.proofs.Stages.{next-moment, next-due}
use Rattle.ats_engine_proofs.proofs.Standing.{due-frame, due-within, selecting-within}
use Rattle.ats_engine_proofs.proofs.Travels.{offered-sent, selects-here, selects-offer, selects-place}
use Rattle.ats_engine_proofs.proofs.Travels.{selects-stage, selects-within}

-- a frame that becomes eligible is offered with the time of the event
pub offered-eligible : {T : Type 0} {key : T → ℕ → ℕ → ℕ} {wait : ℕ → ℕ → ℕ} {network : DeclaredNetwork}
    {releases : List Release} {course : Course T} {now : Moment} {row : ℕ} {entries : List (Moment × Event)}
    → IsEligibleNow key wait network releases course now row entries → row < length course.records
    → stage_at course row ≡ Due now.at → (offer_at network course row).eligible ≡ now.at
offered-eligible {T} {key} {wait} {network} {releases} {course} {now} {row} next within was =
    let p : Progress = progress_at course.records row in
    let path : List ℕ = path_of network p in
    let start : Option HopRecord = start_of network course p in
    let due : IsAtStage path start p (Due now.at) =
    subst (IsAtStage path start p) was (next.holds.frames row within).stands in
    let last : IsDueAt now.at (last_hop p) = last-stands (IsDueAt now.at) path p.hops due.here.0 in
    ap eligibility_of last.verdict

-- what becomes of a frame that is offered to a port
pub offering : {T : Type 0} {key : T → ℕ → ℕ → ℕ} {wait : ℕ → ℕ → ℕ} {network : DeclaredNetwork}
    {releases : List Release} {old new : Course T} {now : Moment} {row : ℕ} {entries more : List (Moment × Event)}
    → IsEligibleNow key wait network releases old now row entries
    → (step : BecomesEligible key network old new now row more)
    → IsOffering network old new now.at row step.port
offering {T} {key} {wait} {network} {releases} {old} {new} {now} {row} next step =
    let p : Progress = progress_at old.records row in
    let was : stage_at old row ≡ Due now.at = next-due next in
    let here : row < length old.records = due-within next in
    let here_too : row < length old.stages = subst (λ (n : ℕ). row < n) (sym next.holds.shape.stages) here in
    record {
      changes = changes-one network old new now row Waiting p here refl next.reached
          (ap (λ (x : Course T). x.stages) step.becomes) (ap (λ (x : Course T). x.records) step.becomes)
          (ap (λ (x : Course T). x.last) step.becomes) (ap (λ (x : Course T). x.tie) step.becomes)
          (ap (λ (x : Course T). x.firsts) step.becomes);
      within = here;
      due = was;
      waits = ap (λ (x : Course T). stage_at x row) step.becomes
          ∙ get_or-set_same old.stages row Waiting Over here_too;
      same = ap (λ (x : Course T). progress_at x.records row) step.becomes
          ∙ get_or-set_same old.records row p no_progress here;
      place = step.place;
      eligible = offered-eligible next here was;
      last = ap (λ (x : Course T). x.last.at) step.becomes;
    }

-- it is offered to one of the network
pub offered-within : {T : Type 0} {key : T → ℕ → ℕ → ℕ} {wait : ℕ → ℕ → ℕ} {network : DeclaredNetwork}
    {releases : List Release} {old new : Course T} {now : Moment} {row : ℕ} {entries more : List (Moment × Event)}
    → IsEligibleNow key wait network releases old now row entries
    → (step : BecomesEligible key network old new now row more) → step.port < length network.topology.ports
offered-within {T} {key} {wait} {network} {releases} {old} {new} {now} {row} next step =
    let is = due-frame next in
    let here : IsStanding network (IsDueAt now.at) (progress_at old.records row) =
    record { rules = next.holds.rules; sender = is.sender; leg = is.leg; stands = is.stands.here.0 } in
    subst (λ (port : ℕ). port < length network.topology.ports) step.place (standing-place here)

-- which selects, if it has rested, as soon as it is free
pub offered-at : {T : Type 0} {key : T → ℕ → ℕ → ℕ} {wait : ℕ → ℕ → ℕ} {network : DeclaredNetwork}
    {releases : List Release} {old new : Course T} {now : Moment} {row : ℕ} {entries more : List (Moment × Event)}
    → IsEligibleNow key wait network releases old now row entries
    → (step : BecomesEligible key network old new now row more) → turn_at old step.port ≡ Resting
    → step.at.0 ≡ max now.at.0 (last_end (port_state_at old step.port).sent)
offered-at {T} {key} {wait} {network} {releases} {old} {new} {now} {row} next step rests =
    let s : PortState T = port_state_at old step.port in
    let held : List Offer = step.standing.held in
    let empty : s.held ≡ [] =
    subst (IsTurn s) rests (next.holds.ports step.port (offered-within next step)).turn in
    let first : IsFirstStart held s.sent step.at.0 =
    subst (λ (x : PortState T). IsFirstStart held x.sent step.at.0) step.rest (step.next rests) in
    rested-at (offer_at network old row) s.held held s.sent step.at.0 step.held empty first
    ∙ ap (λ (e : Ps). max e.0 (last_end s.sent)) (offered-eligible next (due-within next) (next-due next))

-- the port that a frame is offered to
pub offered-here : {T : Type 0} {key : T → ℕ → ℕ → ℕ} {wait : ℕ → ℕ → ℕ} {network : DeclaredNetwork}
    {releases : List Release} {old new : Course T} {now : Moment} {row : ℕ} {entries more : List (Moment × Event)}
    → IsEligibleNow key wait network releases old now row entries
    → (step : BecomesEligible key network old new now row more) → step.port < length network.topology.ports
    → IsPortOf key network new step.port (port_state_at new step.port)
offered-here {T} {key} {wait} {network} {releases} {old} {new} {now} {row} next step within =
    let port : ℕ = step.port in
    let frame : ℕ = (progress_at old.records row).frame in
    let s : PortState T = port_state_at old port in
    let held : List Offer = step.standing.held in
    let turn : Turn = turn_once_offered (turn_at old port) step.at in
    let within_ports : port < length old.ports = subst (λ (n : ℕ). port < n) (sym next.holds.shape.ports) within in
    let within_turns : port < length old.turns = subst (λ (n : ℕ). port < n) (sym next.holds.shape.turns) within in
    let stands : port_state_at new port ≡ record s { held = held } =
    ap (λ (x : Course T). port_state_at x port) step.becomes
    ∙ get_or-set_same old.ports port step.standing (opened 0 [] old.tie) within_ports ∙ step.rest in
    subst (IsPortOf key network new port) (sym stands)
    (port-offered key s held step.at (offering next step) (next.holds.ports port within) step.held
    (subst (IsLawfulPort key) step.rest step.lawful)
    (subst (λ (n : ℕ). All (λ (x : Offer). x.frame ≢ frame) (port_state_at old n).held) step.place
    (may-be-offered next).not_held)
    (subst (λ (n : ℕ). All (λ (x : Sent). x.frame ≢ frame) (port_state_at old n).sent) step.place
    (may-be-offered next).not_sent)
    (offered-sent next step port)
    (λ rests. subst (λ (x : PortState T). IsFirstStart held x.sent step.at.0) step.rest (step.next rests))
    (ap (λ (x : Course T). turn_at x port) step.becomes
    ∙ get_or-set_same old.turns port turn Resting within_turns))

-- the port once it has sent the frame
pub selects-standing : {T : Type 0} {key : T → ℕ → ℕ → ℕ} {wait : ℕ → ℕ → ℕ} {network : DeclaredNetwork}
    {old new : Course T} {now : Moment} {port : ℕ} {more : List (Moment × Event)}
    (step : Selects key wait network old new now port more)
    → step.standing ≡ once_started (port_state_at old port) step.sending.held step.starts.started now.at
selects-standing {T} {key} {wait} {network} {old} {new} {now} {port} step =
    let s : PortState T = port_state_at old port in
    step.finished
    ∙ ap (λ (t : PortState T). record t { is_sending = false }) (step.starts.rest
    ∙ ap (λ (xs : List Sent). record s { held = step.sending.held; sent = xs; is_sending = true }) step.starts.sent)

-- whose last transmission ends then
pub selects-last : {T : Type 0} {key : T → ℕ → ℕ → ℕ} {wait : ℕ → ℕ → ℕ} {network : DeclaredNetwork}
    {old new : Course T} {now : Moment} {port : ℕ} {more : List (Moment × Event)}
    (step : Selects key wait network old new now port more) → last_end step.standing.sent ≡ step.end.0
selects-last {T} {key} {wait} {network} {old} {new} {now} {port} step =
    let s : PortState T = port_state_at old port in
    ap (λ (t : PortState T). last_end t.sent) (selects-standing step)
    ∙ ap (λ (x : Sent). x.end.0) (last-push s.sent (sent_at s.ps_per_bit step.starts.started now.at.0))
    ∙ sym step.starts.ends

-- the frame is then away from each port
pub selects-away : {T : Type 0} {key : T → ℕ → ℕ → ℕ} {wait : ℕ → ℕ → ℕ} {network : DeclaredNetwork}
    {releases : List Release} {old new : Course T} {now : Moment} {port : ℕ} {entries more : List (Moment × Event)}
    → IsNext key wait network releases old now (Selection port) entries
    → (step : Selects key wait network old new now port more) → (other : ℕ) → IsAway network new other step.row
selects-away {T} {key} {wait} {network} {releases} {old} {new} {now} {port} next step other =
    let after : Progress = with_sent (progress_at old.records step.row) now.at step.end in
    let here : step.row < length old.records = selects-within next step in
    let here_too : step.row < length old.stages =
    subst (λ (n : ℕ). step.row < n) (sym next.holds.shape.stages) here in
    between-away network new other step.row (leaves_for network step.row after step.arrival).stage
    (ap (λ (x : Course T). stage_at x step.row) step.becomes
    ∙ get_or-set_same old.stages step.row step.move.stage Over here_too ∙ ap (λ (x : Move). x.stage) step.is)
    (leaves-between network step.row after step.arrival)

-- what becomes of the frame that a port starts
pub starting : {T : Type 0} {key : T → ℕ → ℕ → ℕ} {wait : ℕ → ℕ → ℕ} {network : DeclaredNetwork}
    {releases : List Release} {old new : Course T} {now : Moment} {port : ℕ} {entries more : List (Moment × Event)}
    → IsNext key wait network releases old now (Selection port) entries
    → (step : Selects key wait network old new now port more)
    → IsStarting network old new now.at step.row port (port_state_at old port) step.sending.held step.starts.started
starting {T} {key} {wait} {network} {releases} {old} {new} {now} {port} next step =
    let row : ℕ = step.row in
    let started : Offer = step.starts.started in
    let p : Progress = progress_at old.records row in
    let m : Move = step.move in
    let within : port < length network.topology.ports = selecting-within next in
    let within_turns : port < length old.turns = subst (λ (n : ℕ). port < n) (sym next.holds.shape.turns) within in
    let here : row < length old.records = selects-within next step in
    let phase : now.phase ≡ SELECTION = selecting-phase port (turn_at old port) now (next-moment next) in
    let last_phase : new.last.phase ≡ now.phase = ap (λ (x : Course T). x.last.phase) step.becomes in
    let offered : offer_at network old row ≡ started = selects-offer next step in
    let after : Progress = with_sent p now.at step.end in
    let same : m.progress.release ≡ p.release =
    ap (λ (x : Move). x.progress.release) step.is ∙ leaves-release network row after step.arrival in
    record {
      changes = changes-one network old new now row m.stage m.progress here same (next-reached next)
          (ap (λ (x : Course T). x.stages) step.becomes) (ap (λ (x : Course T). x.records) step.becomes)
          (ap (λ (x : Course T). x.last) step.becomes) (ap (λ (x : Course T). x.tie) step.becomes)
          (ap (λ (x : Course T). x.firsts) step.becomes);
      within = here;
      offered = offered;
      one = λ other there waits at named. standing-one next.holds.rules next.holds.shape other row port there here
          (waiting-stands other next.holds there waits)
          (waiting-stands row next.holds here (selects-stage next step))
          (named ∙ sym (ap (λ (o : Offer). o.frame) offered)) at (selects-place next step);
      takes = step.starts.held;
      away = selects-away next step port;
      last = ap (λ (x : Course T). x.last.at) step.becomes;
      phase = omega arith;
      turn = subst (IsTurn (once_started (port_state_at old port) step.sending.held started now.at))
          (sym (ap (λ (x : Course T). turn_at x port) step.becomes
          ∙ get_or-set_same old.turns port step.turn Resting within_turns))
          (subst (λ (t : PortState T). IsTurn t step.turn) (selects-standing step) step.next);
    }

-- the port that selects
pub selects-this : {T : Type 0} {key : T → ℕ → ℕ → ℕ} {wait : ℕ → ℕ → ℕ} {network : DeclaredNetwork}
    {releases : List Release} {old new : Course T} {now : Moment} {port : ℕ} {entries more : List (Moment × Event)}
    → IsNext key wait network releases old now (Selection port) entries → Selects key wait network old new now port more
    → IsPortOf key network new port (port_state_at new port)
selects-this {T} {key} {wait} {network} {releases} {old} {new} {now} {port} next step =
    let s : PortState T = port_state_at old port in
    let within : port < length network.topology.ports = selecting-within next in
    let within_ports : port < length old.ports = subst (λ (n : ℕ). port < n) (sym next.holds.shape.ports) within in
    let is : step.standing ≡ once_started s step.sending.held step.starts.started now.at = selects-standing step in
    let stands : port_state_at new port ≡ once_started s step.sending.held step.starts.started now.at =
    ap (λ (x : Course T). port_state_at x port) step.becomes
    ∙ get_or-set_same old.ports port step.standing (opened 0 [] old.tie) within_ports ∙ is in
    subst (IsPortOf key network new port) (sym stands)
    (port-started key (starting next step) (next.holds.ports port within) (subst (IsLawfulPort key) is step.lawful)
    (selects-here next step))
