use Rattle.std.proofs.Common.{◌≡◌, ℕ, ◌<◌, List, [], ◌∷◌, length, get_or, set, All, IsPermutation, refl, sym, ap, ◌∙◌}
use Rattle.std.proofs.Common.{subst, false, ◌+◌, ◌*◌, ◌++◌, arith}
use Rattle.ats_topology.specs.Port.{port_at}
use Rattle.ats_topology.specs.declared.port.Port.{Port}
use Rattle.std.proofs.lemmas.List.{set-get_or, set-set, get_or_default, get_or-set_same, length-set}
use Rattle.std.proofs.lemmas.List.Elements.{All-head}
use Rattle.std.proofs.lemmas.List.Sorted.{All-permutation, length_permutation}
use Rattle.ats_num.specs.declared.time.Ps.{Ps}
use Rattle.ats_network.specs.Network.{DeclaredNetwork}
use Rattle.ats_events.specs.declared.moment.Moment.{Moment}
use Rattle.ats_num.specs.Wire.{bits_of}
use Rattle.ats_transmit.specs.Picks.{IsFirstStart, Starts}
use Rattle.ats_transmit.specs.State.{PortState, opened, IsLawfulPort}
use Rattle.ats_transmit.specs.declared.offer.Offer.{Offer}
use Rattle.std.specs.Prelude.{◌≤◌, Contains}
use Rattle.ats_streams.specs.Branches.{leg_at}
use Rattle.ats_network.specs.Senders.{sender_at}
use Rattle.ats_trace.specs.Journey.{legs_at}
use Rattle.ats_trace.specs.Stored.{row_of}
use Rattle.ats_trace.specs.declared.journey.Release.{Release}
use Rattle.ats_run_records.specs.Progress.{Ledger, Progress, progress_at, no_progress, with_leg, with_sent}
use Rattle.ats_engine_steps.specs.Conditions.{IsThere}
use Rattle.ats_engine_steps.specs.Course.{Course, place_at, offer_at, turn_at, arrives_from_at}
use Rattle.ats_engine_steps.specs.Paces.{arrival_behind}
use Rattle.ats_engine_steps.specs.declared.stage.Stage.{Stage}
use Rattle.ats_engine_steps.specs.Ports.{port_state_at, IsTurn}
use Rattle.ats_engine_steps.specs.Steps.{IsLegAt, Move}
use Rattle.ats_engine_steps.specs.Steps.{turn_once_offered, selections_once_offered, BecomesEligible, Selects}
use Rattle.ats_engine_steps.specs.Steps.{leaves_for, selections}
use Rattle.ats_engine_steps.specs.declared.event.Event.{Event}
use Rattle.ats_engine_steps.specs.declared.stage.Stage.TheVariants.{Waiting}
use Rattle.ats_engine_steps.specs.declared.turn.Turn.{Turn}
use Rattle.ats_engine_steps.specs.declared.turn.Turn.TheVariants.{Resting}

-- a port that was read is the port of its number
pub port-read : {T : Type 0} (course : Course T) (port : ℕ) (s : PortState T) → port < length course.ports
    → s ≡ get_or course.ports port s → s ≡ port_state_at course port
port-read course port s within is = is ∙ get_or_default course.ports port s (opened 0 [] course.tie) within

-- so for when the next frame may arrive behind it
pub arrives-read : {T : Type 0} (course : Course T) (port : ℕ) (read : Ps) → port < length course.arrives_from
    → read ≡ get_or course.arrives_from port read → read.0 ≡ arrives_from_at course port
arrives-read course port read within is =
    ap (λ (p : Ps). p.0) (is ∙ get_or_default course.arrives_from port read (record { 0 = 0 }) within)

-- a frame is offered to its port, whose turn is this
pub offered : {T : Type 0} (key : T → ℕ → ℕ → ℕ) (network : DeclaredNetwork) (old : Course T) (now : Moment)
    (row port : ℕ) (at : Ps) (before standing : PortState T) (offer : Offer) (turn : Turn) (turns : List Turn)
    (entries : List (Moment × Event)) → port ≡ place_at network old row → before ≡ port_state_at old port
    → offer ≡ offer_at network old row → IsPermutation (offer ∷ before.held) standing.held
    → standing ≡ record before { held = standing.held } → IsLawfulPort key standing
    → (turn ≡ Resting → IsFirstStart standing.held standing.sent at.0)
    → turn_at old port ≡ turn → turns ≡ set old.turns port (turn_once_offered turn at)
    → entries ≡ selections_once_offered port turn at
    → BecomesEligible key network old (record old {
      stages = set old.stages row Waiting;
      ports = set old.ports port standing;
      turns = turns;
      last = now;
    }) now row entries
offered {T} key network old now row port at before standing offer turn turns entries place was own held rest lawful
    first is next brings =
    record {
      port = port;
      standing = standing;
      at = at;
      place = sym place;
      held = subst (λ (o : Offer). IsPermutation (o ∷ (port_state_at old port).held) standing.held) own
          (subst (λ (s : PortState T). IsPermutation (offer ∷ s.held) standing.held) was held);
      rest = subst (λ (s : PortState T). standing ≡ record s { held = standing.held }) was rest;
      lawful = lawful;
      next = λ rests. first (sym is ∙ rests);
      becomes =
          ap (λ (ts : List Turn). record old {
            stages = set old.stages row Waiting;
            ports = set old.ports port standing;
            turns = ts;
            last = now;
          }) (next ∙ ap (λ (t : Turn). set old.turns port (turn_once_offered t at)) (sym is))
          ∙ ap (λ (ps : List Progress). record old {
            stages = set old.stages row Waiting;
            records = ps;
            ports = set old.ports port standing;
            turns = set old.turns port (turn_once_offered (turn_at old port) at);
            last = now;
          }) (sym (set-get_or old.records row no_progress));
      brings = brings ∙ ap (λ (t : Turn). selections_once_offered port t at) (sym is);
    }

-- a port that was offered a frame holds one
pub held-some : (offer : Offer) (before held : List Offer) → IsPermutation (offer ∷ before) held → held ≡ [] → ⊥
held-some offer before held moved none =
    let long : length held ≡ 0 = ap (λ (os : List Offer). length os) none in
    omega (arith, length_permutation (offer ∷ before) held moved)

-- the turns of ports where one takes the turn that it had
pub same-turns : (turns : List Turn) (port : ℕ) (turn : Turn) → get_or turns port Resting ≡ turn
    → turns ≡ set turns port turn
same-turns turns port turn is = sym (set-get_or turns port Resting) ∙ ap (set turns port) is

pub turn-read : {T : Type 0} (course : Course T) (port : ℕ) (turn read : Turn) → port < length course.turns
    → read ≡ get_or course.turns port read → read ≡ turn → turn_at course port ≡ turn
turn-read course port turn read within is same =
    sym (is ∙ get_or_default course.turns port read Resting within) ∙ same

-- what holds of each frame that was held holds of the one that starts
pub started-frame : {T : Type 0} (key : ℕ → ℕ → ℕ) (old new : PortState T) (now frame end : ℕ)
    → Starts key old new now frame end → (P : ℕ → Type 0) → All (λ (o : Offer). P o.frame) old.held → P frame
started-frame key old new now frame end starts P each =
    let Holds : Offer → Type 0 = λ (o : Offer). P o.frame in
    subst P starts.named (All-head Holds starts.started new.held
    (All-permutation Holds old.held (starts.started ∷ new.held) starts.held each))

-- so it passes the port
pub started-there : {T : Type 0} (key : ℕ → ℕ → ℕ) (network : DeclaredNetwork) (course : Course T) (port : ℕ)
    (before standing : PortState T) (now frame end : ℕ) → before ≡ port_state_at course port
    → Starts key before standing now frame end
    → All (λ (o : Offer). IsThere network course port o.frame) (port_state_at course port).held
    → IsThere network course port frame
started-there {T} key network course port before standing now frame end was starts each =
    started-frame key before standing now frame end starts (IsThere network course port)
    (subst (λ (s : PortState T). All (λ (o : Offer). IsThere network course port o.frame) s.held) (sym was) each)

-- a leg of its sender that has the port is the one that they name
pub named-leg : {T : Type 0} (network : DeclaredNetwork) (course : Course T) (frame port leg row : ℕ)
    (release : Release) → release ≡ (progress_at course.records frame).release
    → leg ≤ length (sender_at network release.sender).branches
    → Contains (leg_at (legs_at network release.sender) leg) port → row ≡ row_of course.firsts frame leg
    → IsLegAt network course frame port row
named-leg network course frame port leg row release is there has at =
    record {
      leg = leg;
      there = subst (λ (r : Release). leg ≤ length (sender_at network r.sender).branches) is there;
      has = subst (λ (r : Release). Contains (leg_at (legs_at network r.sender) leg) port) is has;
      is = at;
    }

-- and its transmission ends in time
pub started-ends : {T : Type 0} (key : ℕ → ℕ → ℕ) (old new : PortState T) (now frame end most : ℕ)
    → Starts key old new now frame end
    → All (λ (o : Offer). now + old.ps_per_bit * bits_of o.octets ≤ most) old.held → end ≤ most
started-ends key old new now frame end most starts each =
    let InTime : Offer → Type 0 = λ (o : Offer). now + old.ps_per_bit * bits_of o.octets ≤ most in
    subst (λ (n : ℕ). n ≤ most) (sym starts.ends) (All-head InTime starts.started new.held
    (All-permutation InTime old.held (starts.started ∷ new.held) starts.held each))

-- what a leg's records are once they tell of the transmission
pub sent-read : (legs : List Progress) (firsts : List ℕ) (sent : Ledger) (row : ℕ) (start end : Ps) → row < length legs
    → sent ≡ with_leg (record { legs = legs; firsts = firsts }) row (with_sent (progress_at legs row) start end)
    → progress_at sent.legs row ≡ with_sent (progress_at legs row) start end
sent-read legs firsts sent row start end within is =
    ap (λ (ledger : Ledger). progress_at ledger.legs row) is
    ∙ get_or-set_same legs row (with_sent (progress_at legs row) start end) no_progress within

-- there are as many of them
pub sent-many : (legs : List Progress) (firsts : List ℕ) (sent : Ledger) (row : ℕ) (p : Progress)
    → sent ≡ with_leg (record { legs = legs; firsts = firsts }) row p → length sent.legs ≡ length legs
sent-many legs firsts sent row p is = ap (λ (ledger : Ledger). length ledger.legs) is ∙ length-set legs row p

-- entries behind those of a frame
pub same-behind : (left read told : List (Moment × Event)) → read ≡ told → left ++ read ≡ left ++ told
same-behind left read told is = ap (λ (es : List (Moment × Event)). left ++ es) is

-- the records of legs once one of them moved from there
left-records : (legs : List Progress) (firsts : List ℕ) (sent records : Ledger) (row : ℕ) (p next : Progress)
    → sent ≡ with_leg (record { legs = legs; firsts = firsts }) row p → records ≡ with_leg sent row next
    → records ≡ with_leg (record { legs = legs; firsts = firsts }) row next
left-records legs firsts sent records row p next is moved =
    moved ∙ ap (λ (ledger : Ledger). with_leg ledger row next) is
    ∙ ap (λ (ps : List Progress). let ledger : Ledger = record { legs = ps; firsts = firsts } in ledger)
    (set-set legs row p next)

-- it is sent along this leg
pub selected : {T : Type 0} (key : T → ℕ → ℕ → ℕ) (wait : ℕ → ℕ → ℕ) (network : DeclaredNetwork) (old : Course T)
    (now : Moment) (port frame row : ℕ) (end from arrival : Ps) (before sending standing : PortState T) (link : Port)
    (turn : Turn) (stages : List Stage) (sent records : Ledger) (left entries : List (Moment × Event))
    → before ≡ port_state_at old port → (port_state_at old port).tie ≡ old.tie
    → Starts (key before.tie) before sending now.at.0 frame end.0 → standing ≡ record sending { is_sending = false }
    → IsLawfulPort key standing → IsTurn standing turn → IsLegAt network old frame port row
    → row < length old.records → link ≡ port_at network.topology.ports port → from.0 ≡ arrives_from_at old port
    → arrival.0 ≡ arrival_behind wait link frame end.0 from.0
    → sent ≡ with_leg (record { legs = old.records; firsts = old.firsts }) row
    (with_sent (progress_at old.records row) now.at end)
    → stages ≡ set old.stages row (leaves_for network row (progress_at sent.legs row) arrival).stage
    → records ≡ with_leg sent row (leaves_for network row (progress_at sent.legs row) arrival).progress
    → left ≡ (leaves_for network row (progress_at sent.legs row) arrival).entries
    → entries ≡ left ++ selections port turn
    → Selects key wait network old (record old {
      stages = stages;
      records = records.legs;
      firsts = records.firsts;
      ports = set old.ports port standing;
      turns = set old.turns port turn;
      arrives_from = set old.arrives_from port (record { 0 = arrival.0 + 1 });
      last = now;
    }) now port entries
selected {T} key wait network old now port frame row end from arrival before sending standing link turn stages sent
    records left entries was tie starts finished lawful next named within of_link of_from arrives is staged recorded
    leaves brings =
    let q : Progress = with_sent (progress_at old.records row) now.at end in
    let same : progress_at sent.legs row ≡ q = sent-read old.records old.firsts sent row now.at end within is in
    let move : Move = leaves_for network row q arrival in
    let onto : List Stage → Ledger → Course T = λ (ss : List Stage) (ledger : Ledger). record old {
      stages = ss;
      records = ledger.legs;
      firsts = ledger.firsts;
      ports = set old.ports port standing;
      turns = set old.turns port turn;
      arrives_from = set old.arrives_from port (record { 0 = arrival.0 + 1 });
      last = now;
    } in
    record {
      frame = frame;
      row = row;
      end = end;
      arrival = arrival;
      sending = sending;
      standing = standing;
      turn = turn;
      move = move;
      starts = subst (λ (t : T). Starts (key t) (port_state_at old port) sending now.at.0 frame end.0) tie
          (subst (λ (s : PortState T). Starts (key s.tie) s sending now.at.0 frame end.0) was starts);
      finished = finished;
      lawful = lawful;
      named = named;
      arrives = arrives
          ∙ ap (λ (p : Port). arrival_behind wait p frame end.0 from.0) of_link
          ∙ ap (λ (n : ℕ). arrival_behind wait (port_at network.topology.ports port) frame end.0 n) of_from;
      next = next;
      is = refl;
      becomes = ap (λ (ss : List Stage). onto ss records)
          (staged ∙ ap (λ (p : Progress). set old.stages row (leaves_for network row p arrival).stage) same)
          ∙ ap (onto (set old.stages row move.stage))
          (left-records old.records old.firsts sent records row q move.progress is
          (recorded ∙ ap (λ (p : Progress). with_leg sent row (leaves_for network row p arrival).progress) same));
      brings = brings
          ∙ ap (λ (es : List (Moment × Event)). es ++ selections port turn)
          (leaves ∙ ap (λ (p : Progress). (leaves_for network row p arrival).entries) same);
    }
