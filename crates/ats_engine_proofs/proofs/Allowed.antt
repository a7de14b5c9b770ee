use Rattle.std.proofs.Common.{◌≡◌, ℕ, ◌+◌, ◌*◌, ◌<◌, ◌≤◌, List, [], length, get_or, refl, sym, ap, ◌∙◌, subst}
use Rattle.std.proofs.Common.{All, inl, inr, arith}
use Rattle.std.specs.Prelude.{◌≢◌, Contains}
use Rattle.std.proofs.lemmas.Bool.{cases_lt}
use Rattle.ats_num.specs.declared.time.TheConstants.{END}
use Rattle.ats_topology.specs.Port.{port_at, no_port}
use Rattle.ats_topology.specs.Topology.{IsPort}
use Rattle.ats_topology.proofs.Rules.{ports_are_lawful}
use Rattle.ats_streams.specs.declared.path.TheConstants.{MAX_PORTS}
use Rattle.ats_network.specs.Network.{DeclaredNetwork, IsNetwork, senders_of}
use Rattle.ats_network.specs.Sender.{Sender}
use Rattle.ats_network.specs.Senders.{IsSender, sender_at}
use Rattle.ats_network.proofs.ClassLemmas.{class_at-le}
use Rattle.ats_network.proofs.SenderLemmas.{sender_keeps, flow_class}
use Rattle.ats_group.specs.declared.verdict.Verdict.{Verdict}
use Rattle.ats_transmit.specs.Picks.{IsFirstStart}
use Rattle.ats_transmit.specs.Sending.{last_end, last_start}
use Rattle.ats_transmit.specs.State.{PortState, opened}
use Rattle.ats_transmit.specs.declared.offer.Offer.{Offer}
use Rattle.ats_transmit.specs.declared.sent.Sent.{Sent}
use Rattle.ats_events.specs.declared.moment.Moment.{Moment}
use Rattle.ats_events.specs.declared.phase.TheConstants.{SELECTION}
use Rattle.ats_trace.specs.Projections.{Crossing}
use Rattle.ats_trace.specs.HopRecord.{HopRecord, IsEligible}
use Rattle.ats_trace.specs.declared.journey.Release.{Release}
use Rattle.ats_run_records.specs.Progress.{Progress, last_hop, progress_at}
use Rattle.ats_num.specs.Wire.{bits_of}
use Rattle.ats_engine_steps.specs.Bounds.{horizon, all_left}
use Rattle.ats_engine_steps.specs.Conditions.{HasRoom, IsPlaced, IsThere, MayComeNow, MayBeOffered, MaySelect}
use Rattle.ats_engine_steps.specs.Course.{Course, arrives_from_at, crossings_so_far, eligibility_of, offer_at, path_of}
use Rattle.ats_engine_steps.specs.Course.{place_at, sender_of, stage_at}
use Rattle.ats_engine_steps.specs.Entries.{IsReached}
use Rattle.ats_engine_steps.specs.Frames.{IsFrame, IsDueAt, IsUnsent, Goes}
use Rattle.ats_engine_steps.specs.Invariant.{Holds}
use Rattle.ats_engine_steps.specs.Paces.{IsPaced}
use Rattle.ats_engine_steps.specs.Ports.{IsHeld, IsPortOf, IsTurn, port_state_at}
use Rattle.ats_engine_steps.specs.Steps.{IsLegAt, class_behind, rows_next}
use Rattle.ats_engine_steps.specs.declared.event.Event.{Event}
use Rattle.ats_engine_steps.specs.declared.event.Event.TheVariants.{Arrival, Selection}
use Rattle.ats_engine_steps.specs.declared.stage.Stage.{Stage}
use Rattle.ats_engine_steps.specs.declared.stage.Stage.TheVariants.{Coming, Due, Waiting, Over}
use Rattle.ats_engine_steps.specs.declared.turn.Turn.TheVariants.{Resting, Selecting}
use Rattle.ats_engine_proofs.specs.Next.{IsEligibleNow, IsNext}
use Rattle.ats_engine_proofs.proofs.Begun.{IsApart, next-or-apart}
use Rattle.ats_engine_proofs.proofs.Crossed.{crossed-ended}
use Rattle.ats_engine_proofs.proofs.Lasting.{held-most}
use Rattle.ats_engine_proofs.proofs.LegPorts.{leg-few, leg-some}
use Rattle.ats_engine_proofs.proofs.Now.{next-in_time}
use Rattle.ats_engine_proofs.proofs.Offering.{contains-leg, not-sent-here, room-here}
use Rattle.ats_engine_proofs.proofs.OnePlace.{standing-has}
use Rattle.ats_engine_proofs.proofs.Placed.{IsStanding, standing-place, standing-placed, standing-last, goes-fewer}
use Rattle.ats_engine_proofs.proofs.Placed.{in_order_from-le, stands-at_most}
use Rattle.ats_engine_proofs.proofs.Rows.{firsts-are, frames-all, named-one, next-apart, place-names}
use Rattle.ats_engine_proofs.proofs.Rows.{port-one, release-one, row-is}
use Rattle.ats_engine_proofs.proofs.Stages.{next-coming, next-due, next-selecting}
use Rattle.ats_engine_proofs.proofs.Stages.{stage-within}
use Rattle.ats_engine_proofs.proofs.Stages.{turn-within}
use Rattle.ats_engine_proofs.proofs.Ways.{stands-some}

-- a frame of a run that is at this stage
record IsAt {T : Type 0} (network : DeclaredNetwork) (course : Course T) (row : ℕ) (stage : Stage) : Type 0 where
  within : row < length course.records
  at : stage_at course row ≡ stage
  is : IsFrame network course (progress_at course.records row) stage

-- so is one that has a stage but the last
at_stage : {T : Type 0} {key : T → ℕ → ℕ → ℕ} {wait : ℕ → ℕ → ℕ} {network : DeclaredNetwork}
    {releases : List Release} {course : Course T} {entries : List (Moment × Event)} (row : ℕ) (stage : Stage)
    → Holds key wait network releases course entries → stage_at course row ≡ stage → (stage ≡ Over → ⊥)
    → IsAt network course row stage
at_stage {T} {key} {wait} {network} {releases} {course} {entries} row stage holds at other =
    let within : row < length course.records = stage-within course row stage holds.shape.stages at other in
    record {
      within = within;
      at = at;
      is = subst (IsFrame network course (progress_at course.records row)) at (holds.frames row within);
    }

-- a frame comes to a leg that begins there by its first record
begun-room : {T : Type 0} {network : DeclaredNetwork} {course : Course T} (row : ℕ) → IsNetwork network
    → IsApart network course row → HasRoom course.records row
begun-room {T} {network} {course} row rules apart =
    let p : Progress = progress_at course.records row in
    let none : length p.hops ≡ 0 = ap (λ (hops : List HopRecord). length hops) apart.is.stands.here.0 in
    let some : 1 ≤ length (path_of network p) =
    leg-some network p.release.sender p.leg rules apart.is.sender apart.is.leg in
    record { within = apart.within; more = omega (arith, apart.is.room) }

-- a frame that arrives next may come
pub may-come : {T : Type 0} {key : T → ℕ → ℕ → ℕ} {wait : ℕ → ℕ → ℕ} {network : DeclaredNetwork}
    {releases : List Release} {course : Course T} {now : Moment} {row : ℕ} {entries : List (Moment × Event)}
    → IsNext key wait network releases course now (Arrival row) entries → MayComeNow network course now.at.0 row
may-come {T} {key} {wait} {network} {releases} {course} {now} {row} {entries} next =
    let stage : Stage = Coming now.at in
    let at : IsAt network course row stage =
    at_stage row stage next.holds (next-coming next) (λ (e : Coming now.at ≡ Over). (cc)) in
    let progress : Progress = progress_at course.records row in
    let most : length (path_of network progress) ≤ MAX_PORTS =
    leg-few network progress.release.sender progress.leg next.holds.rules at.is.sender at.is.leg in
    let goes : Goes (path_of network progress) progress.hops = at.is.stands.here.0 in
    let more : length progress.hops < length (path_of network progress) =
    goes-fewer (path_of network progress) progress.hops goes in
    let own : HasRoom course.records row = record { within = at.within; more = omega (arith, at.is.room, more) } in
    let time : now.at.0 ≤ horizon = next-in_time next in
    record {
      stages = next.holds.shape.stages;
      may_come = record {
        room = own;
        sender = at.is.sender;
        leg = at.is.leg;
        path = at.is.room;
        most = omega (arith, at.is.room, most);
        known = next.holds.members.members;
        stream = λ one. elim (cases_lt progress.release.sender (length network.streams))
            as (λ _. progress.release.sender < length network.streams) [
              | inl below ↦ below
              | inr past ↦ absurd (
                  let none : class_behind network progress ≡ 0 =
                  flow_class network progress.release.sender _ past at.is.sender in
                  omega arith)
            ];
        time = omega arith;
      };
      frame = omega (arith, (row-is next.holds.shape row at.within).frame, frames-all next.holds.shape);
      next = λ k d h. (
          let n : ℕ = get_or (rows_next network course row) k d in
          elim (next-or-apart next.holds row at.within k d h) as (λ _. HasRoom course.records n) [
            | inl same ↦ subst (HasRoom course.records) (sym same) own
            | inr begun ↦ begun-room n next.holds.rules begun
          ]);
      apart = next-apart next.holds.rules next.holds.shape row at.within at.is.sender;
    }

-- a frame that waits along a leg stands at a port that has not sent it
pub waiting-stands : {T : Type 0} {key : T → ℕ → ℕ → ℕ} {wait : ℕ → ℕ → ℕ} {network : DeclaredNetwork}
    {releases : List Release} {course : Course T} {entries : List (Moment × Event)} (row : ℕ)
    → Holds key wait network releases course entries → row < length course.records
    → stage_at course row ≡ Waiting → IsStanding network IsUnsent (progress_at course.records row)
waiting-stands {T} {key} {wait} {network} {releases} {course} {entries} row holds within waiting =
    let progress : Progress = progress_at course.records row in
    let is : IsFrame network course progress Waiting =
    subst (IsFrame network course progress) waiting (holds.frames row within) in
    record { rules = holds.rules; sender = is.sender; leg = is.leg; stands = is.stands.here.0 }

-- the port at which it waits is one of the leg
held-has : {T : Type 0} {key : T → ℕ → ℕ → ℕ} {wait : ℕ → ℕ → ℕ} {network : DeclaredNetwork}
    {releases : List Release} {course : Course T} {entries : List (Moment × Event)} {port : ℕ} {o : Offer}
    → Holds key wait network releases course entries → (held : IsHeld network course port o)
    → Contains (path_of network (progress_at course.records held.row)) port
held-has {T} {key} {wait} {network} {releases} {course} holds held =
    subst (Contains (path_of network (progress_at course.records held.row))) held.place
    (standing-has (waiting-stands held.row holds held.within held.stage))

-- a port holds a frame along the one leg that has the port
held-one : {T : Type 0} {key : T → ℕ → ℕ → ℕ} {wait : ℕ → ℕ → ℕ} {network : DeclaredNetwork}
    {releases : List Release} {course : Course T} {entries : List (Moment × Event)} {o : Offer}
    → Holds key wait network releases course entries → (row port : ℕ)
    → Contains (path_of network (progress_at course.records row)) port → row < length course.records
    → (progress_at course.records row).release.sender < length (senders_of network)
    → (held : IsHeld network course port o) → (progress_at course.records row).frame ≡ o.frame → row ≡ held.row
held-one {T} {key} {wait} {network} {releases} {course} holds row port has within known held named =
    port-one holds.rules holds.shape row held.row port within held.within known
    (named ∙ sym (ap (λ (x : Offer). x.frame) held.same)) has (held-has holds held)

-- a frame that a port holds passes it, came there along the leg that has it, and is eligible
held-there : {T : Type 0} {key : T → ℕ → ℕ → ℕ} {wait : ℕ → ℕ → ℕ} {network : DeclaredNetwork}
    {releases : List Release} {course : Course T} {entries : List (Moment × Event)} {port : ℕ} {o : Offer}
    → Holds key wait network releases course entries → IsHeld network course port o
    → IsThere network course port o.frame
held-there {T} {key} {wait} {network} {releases} {course} {entries} {port} {o} holds held =
    let p : Progress = progress_at course.records held.row in
    let s : Sender = sender_of network p in
    let at : IsStanding network IsUnsent p = waiting-stands held.row holds held.within held.stage in
    let has : Contains (path_of network p) port = held-has holds held in
    let some : 0 < length p.hops = stands-some IsUnsent (path_of network p) p.hops at.stands in
    let named : p.frame ≡ o.frame = ap (λ (x : Offer). x.frame) held.same in
    let within : p.frame < length course.firsts =
    omega (arith, (row-is holds.shape held.row held.within).frame, frames-all holds.shape) in
    let one : (progress_at course.records p.frame).release ≡ p.release = release-one holds.shape held.row held.within in
    let own : IsLegAt network course p.frame port held.row =
    subst (λ (q : ℕ). IsLegAt network course p.frame q held.row) held.place
    (place-names holds.shape held.row held.within some
    (stands-at_most IsUnsent (path_of network p) p.hops at.stands)) in
    let known : (progress_at course.records p.frame).release.sender < length (senders_of network) =
    subst (λ (r : Release). r.sender < length (senders_of network)) (sym one) at.sender in
    let one_leg : (r : ℕ) → IsLegAt network course p.frame port r → held.row ≡ r =
    λ r leg. named-one holds.rules holds.shape p.frame port held.row r within known own leg in
    subst (IsThere network course port) named (record {
      trunk = omega (arith, (firsts-are holds.shape).trunks);
      numbered = within;
      sender = known;
      passes = subst (λ (r : Release). Contains (sender_at network r.sender).ports port) (sym one)
          (contains-leg network p.release.sender p.leg port holds.rules at.sender at.leg has);
      came = λ r leg. subst (IsPlaced network course.records) (one_leg r leg)
          (standing-placed course.records held.row held.within at);
      eligible = λ r leg.
          subst (λ (n : ℕ). IsEligible (last_hop (progress_at course.records n)).verdict) (one_leg r leg)
          (subst IsEligible (sym (standing-last at).verdict) tt);
    })

-- a port has started no transmission at the time of an event before selections
later-start : {T : Type 0} {key : T → ℕ → ℕ → ℕ} {network : DeclaredNetwork} {course : Course T} {now : Moment}
    (port : ℕ) → IsReached course.last now → now.phase < SELECTION
    → IsPortOf key network course port (port_state_at course port) → 0 < length (port_state_at course port).sent
    → last_start (port_state_at course port).sent < now.at.0
later-start {T} {key} {network} {course} {now} port reached before kept some =
    let start : ℕ = last_start (port_state_at course port).sent in
    let started : start ≤ course.last.at.0 = kept.times.started some in
    elim (cases_lt start now.at.0) as (λ _. start < now.at.0) [
      | inl less ↦ less
      | inr late ↦ absurd (
          let same : start ≡ course.last.at.0 = omega (arith, reached.time) in
          let now_too : course.last.at.0 ≡ now.at.0 = omega (arith, reached.time) in
          omega (arith, kept.times.selected some same, reached.phase now_too))
    ]

-- the port of a frame that becomes eligible now may be offered it
pub may-be-offered : {T : Type 0} {key : T → ℕ → ℕ → ℕ} {wait : ℕ → ℕ → ℕ} {network : DeclaredNetwork}
    {releases : List Release} {course : Course T} {now : Moment} {row : ℕ} {entries : List (Moment × Event)}
    → IsEligibleNow key wait network releases course now row entries
    → MayBeOffered network course now.at.0 row
may-be-offered {T} {key} {wait} {network} {releases} {course} {now} {row} {entries} next =
    let stage : Stage = Due now.at in
    let at : IsAt network course row stage =
    at_stage row stage next.holds (next-due next) (λ (e : Due now.at ≡ Over). (cc)) in
    let progress : Progress = progress_at course.records row in
    let here : IsStanding network (IsDueAt now.at) progress = record {
      rules = next.holds.rules;
      sender = at.is.sender;
      leg = at.is.leg;
      stands = at.is.stands.here.0;
    } in
    let place : ℕ = place_at network course row in
    let within : place < length network.topology.ports = standing-place here in
    let standing : PortState T = port_state_at course place in
    let kept : IsPortOf key network course place standing = next.holds.ports place within in
    let keeps : IsSender network.topology (sender_of network progress) =
    sender_keeps network progress.release.sender next.holds.rules at.is.sender in
    let few : (offer_at network course row).class ≤ 7 =
    class_at-le (sender_of network progress) place keeps.classes in
    let not_held : All (λ (o : Offer). o.frame ≢ progress.frame) standing.held =
    λ k d h e. (
    let held : IsHeld network course place (get_or standing.held k d) = kept.holding.held k d h in
    let one : row ≡ held.row = held-one next.holds row place (standing-has here) at.within at.is.sender held (sym e) in
    let both : Due now.at ≡ Waiting = sym at.at ∙ ap (stage_at course) one ∙ held.stage in
    cc) in
    let not_sent : All (λ (x : Sent). x.frame ≢ progress.frame) standing.sent =
    not-sent-here row next.holds.rules next.holds.shape kept refl at.within (λ hop due. due.sent) here in
    let eligible : (offer_at network course row).eligible.0 ≡ now.at.0 =
    ap (λ (v : Verdict). (eligibility_of v).0) (standing-last here).verdict in
    record {
      stages = next.holds.shape.stages;
      placed = standing-placed course.records row at.within here;
      port = omega (arith, next.holds.shape.ports);
      turns = next.holds.shape.turns ∙ sym next.holds.shape.ports;
      not_held = not_held;
      not_sent = not_sent;
      class = few;
      room = room-here row next.holds.rules next.holds.shape (λ r within. (next.holds.frames r within).sender) kept refl
          at.within (λ r within waits. waiting-stands r next.holds within waits)
          here not_held not_sent few;
      octets = at.is.octets;
      later = λ some. (
          let less = later-start place next.reached next.before kept some in
          omega (arith, less, eligible));
    }

-- from when on the next frame may arrive behind a port is before the end of time
from-le : {T : Type 0} {key : T → ℕ → ℕ → ℕ} {wait : ℕ → ℕ → ℕ} {network : DeclaredNetwork}
    {releases : List Release} {course : Course T} {entries : List (Moment × Event)} (port : ℕ)
    → Holds key wait network releases course entries → port < length network.topology.ports
    → arrives_from_at course port ≤ END
from-le {T} {key} {wait} {network} {releases} {course} {entries} port holds within =
    let s : PortState T = port_state_at course port in
    let paced : IsPaced wait network course port = holds.paces port within in
    let link : IsPort (length network.topology.nodes) (port_at network.topology.ports port) =
    (ports_are_lawful network.topology holds.rules.topology).each port no_port within in
    let last : last_end s.sent + all_left course ≤ horizon =
    holds.bounds.ends port (opened 0 [] course.tie) (omega (arith, holds.shape.ports)) in
    let crossings : List Crossing = crossings_so_far network course port in
    let most = in_order_from-le END END crossings (λ k d h. (
    let ends = crossed-ended key network course port s (holds.ports port within) k d h in
    let arrives = paced.rule.within k d h in
    omega (arith, ends, arrives.latest, link.latency, last))) in
    omega (arith, paced.next, most)

-- a port that selects next may do so
pub may-select : {T : Type 0} {key : T → ℕ → ℕ → ℕ} {wait : ℕ → ℕ → ℕ} {network : DeclaredNetwork}
    {releases : List Release} {course : Course T} {now : Moment} {port : ℕ} {entries : List (Moment × Event)}
    → IsNext key wait network releases course now (Selection port) entries → MaySelect network course now.at.0 port
may-select {T} {key} {wait} {network} {releases} {course} {now} {port} {entries} next =
    let within : port < length course.turns = turn-within course port (Selecting now.at) (next-selecting next)
    (λ (e : Selecting now.at ≡ Resting). (cc)) in
    let inside : port < length network.topology.ports = omega (arith, next.holds.shape.turns) in
    let standing : PortState T = port_state_at course port in
    let kept : IsPortOf key network course port standing = next.holds.ports port inside in
    let turn : IsFirstStart standing.held standing.sent now.at.0 =
    subst (IsTurn standing) (next-selecting next) kept.turn in
    let link : IsPort (length network.topology.nodes) (port_at network.topology.ports port) =
    (ports_are_lawful network.topology next.holds.rules.topology).each port no_port inside in
    let time : now.at.0 ≤ horizon = next-in_time next in
    record {
      stages = next.holds.shape.stages;
      within = omega (arith, next.holds.shape.ports);
      turns = next.holds.shape.turns ∙ sym next.holds.shape.ports;
      arrivals = next.holds.shape.arrives_from ∙ sym next.holds.shape.ports;
      links = next.holds.shape.ports;
      tie = kept.of_network.tie;
      free = kept.free;
      due = turn;
      there = λ k d h. held-there next.holds (kept.holding.held k d h);
      time = omega arith;
      ends = λ k d h. (
          let o : Offer = get_or standing.held k d in
          let most = held-most next.holds port o inside (kept.holding.held k d h) in
          let same = ap (λ (ps : ℕ). ps * bits_of o.octets) kept.of_network.ps_per_bit in
          omega (arith, most, same));
      spread = link.spread;
      earliest = omega (arith, link.ordered, link.latency);
      from = from-le port next.holds inside;
    }
