use Rattle.std.proofs.Common.{ℕ, ◌<◌, [], ◌∷◌, length, set, refl, arith}
use Rattle.ats_engine_steps.specs.Entries.{selection_moment}
use Rattle.ats_engine_steps.specs.Seen.{course_of}
use Rattle.ats_engine_steps.specs.declared.event.Event.TheVariants.{Selection}
use Rattle.ats_engine_steps.specs.declared.turn.Turn.TheVariants.{Resting, Selecting}
use Rattle.ats_engine_steps.proofs.Stepping.{held-some, offered, port-read, same-turns, turn-read}
use Rattle.ats_engine_steps.proofs.steps.become_eligible.Goals as goal

pub returns-in-Selecting : goal.returns-in-Selecting
returns-in-Selecting g c =
    let old = course_of {T = g.row.T.Denot} c.args.state.now in
    let port : ℕ = c.place_of-port.result in
    let within : port < length old.ports = omega (arith, c.requires.port, c.place_of-port.ensures) in
    let listed : port < length old.turns = omega (arith, c.requires.turns) in
    let was = port-read old port c.index_mut-standing.result.now within c.index_mut-standing.ensures.value in
    let is = turn-read old port (Selecting c.in-Selecting.field-0) c.index-turn.result.now listed
    c.index-turn.ensures c.in-Selecting.is in
    rw c.set.ensures
    (offered g.T.Tie.key c.args.net.now old c.args.now c.args.row port c.in-Selecting.field-0
    c.index_mut-standing.result.now c.offer.new.self
    c.offer_of-offer.result (Selecting c.in-Selecting.field-0) (old.turns) ([])
    c.place_of-port.ensures was
    c.offer_of-offer.ensures c.offer.ensures.held
    c.offer.ensures.rest c.offer.ensures.lawful (λ e. cc) is
    (same-turns old.turns port (Selecting c.in-Selecting.field-0) is) refl)

pub unreachable-requires : goal.unreachable-requires
unreachable-requires g c =
    held-some c.offer_of-offer.result c.index_mut-standing.result.now.held c.offer.new.self.held c.offer.ensures.held
    c.in_default.ensures

pub returns-in-Some : goal.returns-in-Some
returns-in-Some g c =
    let old = course_of {T = g.row.T.Denot} c.args.state.now in
    let port : ℕ = c.place_of-port.result in
    let within : port < length old.ports = omega (arith, c.requires.port, c.place_of-port.ensures) in
    let listed : port < length old.turns = omega (arith, c.requires.turns) in
    let was = port-read old port c.index_mut-standing.result.now within c.index_mut-standing.ensures.value in
    let is = turn-read old port (Resting) c.index-turn.result.now listed
    c.index-turn.ensures c.in-Resting.is in
    rw c.set.ensures
    (rw c.at.ensures
    (offered g.T.Tie.key c.args.net.now old c.args.now c.args.row port c.in-Some.at c.index_mut-standing.result.now
    c.offer.new.self c.offer_of-offer.result Resting (set old.turns port (Selecting c.in-Some.at))
    ((selection_moment port c.in-Some.at, Selection port) ∷ [])
    c.place_of-port.ensures was
    c.offer_of-offer.ensures c.offer.ensures.held
    c.offer.ensures.rest c.offer.ensures.lawful (λ e. c.in-Some.ensures) is (refl) refl))
