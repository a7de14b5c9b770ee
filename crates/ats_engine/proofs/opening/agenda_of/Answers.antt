use Rattle.std.proofs.Common.{List, length, refl, ap, arith}
use Rattle.std.proofs.lemmas.List.{length-map}
use Rattle.ats_events.specs.declared.moment.Moment.{Moment}
use Rattle.ats_engine_steps.specs.declared.event.Event.{Event}
use Rattle.ats_topology.specs.declared.port.Port.{Port}
use Rattle.ats_trace.specs.declared.journey.Release.{Release}
use Rattle.ats_run_records.proofs.AllCounts.{have-senders, is-opening}
use Rattle.ats_engine.specs.Told.{with_event, agenda_told}
use Rattle.ats_engine.proofs.Releasing.{released-room, released-apart, released-after, released-inserted}
use Rattle.ats_engine.proofs.Telling.{told-apart, inserted-told}
use Rattle.ats_engine.proofs.opening.agenda_of.Goals as goal

-- for numbers past the last release
no_release : Release
no_release = record { at = record { 0 = 0 }; sender = 0; octets = 0 }

pub insert-requires-clause-room : goal.insert-requires-clause-room
insert-requires-clause-room g c =
    omega (
      arith,
      length-map c.loop-frame.agenda.entries with_event,
      released-room c.args.net.now c.args.releases.now c.args.order c.loop-frame.frame (agenda_told c.loop-frame.agenda)
          c.loop-frame-test.true c.loop-frame.invariant,
    )

pub insert-requires-clause-apart : goal.insert-requires-clause-apart
insert-requires-clause-apart g c =
    told-apart c.loop-frame.agenda.entries
    (released-apart c.args.net.now c.args.releases.now c.args.order c.loop-frame.frame
    (agenda_told c.loop-frame.agenda) _ c.loop-frame-test.true
    (ap (λ (entry : Moment × Event). entry.0.id) c.at-event.ensures) c.loop-frame.invariant)

pub insert-requires-clause-after : goal.insert-requires-clause-after
insert-requires-clause-after g c =
    released-after c.args.net.now c.args.releases.now c.args.order c.loop-frame.frame (agenda_told c.loop-frame.agenda)
    (λ (last : Moment). g.O.TimeOrder.before c.loop-frame.agenda.order last _) c.loop-frame.invariant

pub loop-frame-preserved : goal.loop-frame-preserved
loop-frame-preserved g c =
    released-inserted (g.O.TimeOrder.before c.loop-frame.agenda.order) c.args.net.now c.args.releases.now c.args.order
    c.loop-frame.frame (agenda_told c.loop-frame.agenda) (agenda_told c.insert.new.self) _ _ c.loop-frame-test.true refl
    c.loop-frame.invariant
    (inserted-told refl (rw c.at-event.ensures at c.insert.ensures.inserted))

-- there are no more legs than ports of frames
pub overflow_add-capacity : goal.overflow_add-capacity
overflow_add-capacity g c =
    let opening = is-opening c.args.net.now c.args.releases.now c.topology.ensures.rules
    (have-senders c.args.net.now c.args.releases.now c.requires.releases.each) c.requires.few_ports in
    omega (
      arith,
      opening.few,
      c.requires.legs,
      c.ports.ensures.rules.few_links,
      c.ports.ensures.kept.two_each,
      ap (λ (ports : List Port). length ports) c.ports.ensures.value,
    )

pub overflow_cast-capacity : goal.overflow_cast-capacity
overflow_cast-capacity g c =
    let opening = is-opening c.args.net.now c.args.releases.now c.topology.ensures.rules
    (have-senders c.args.net.now c.args.releases.now c.requires.releases.each) c.requires.few_ports in
    omega (
      arith,
      opening.few,
      c.requires.legs,
      c.ports.ensures.rules.few_links,
      c.ports.ensures.kept.two_each,
      ap (λ (ports : List Port). length ports) c.ports.ensures.value,
    )
