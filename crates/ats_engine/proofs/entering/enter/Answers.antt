use Rattle.ats_engine.proofs.Joining.{apart-first, after-first, may-enter-some}
use Rattle.ats_engine.proofs.Telling.{told-room, told-apart, entered-some}
use Rattle.ats_engine.proofs.entering.enter.Goals as goal

pub insert-requires-clause-room : goal.insert-requires-clause-room
insert-requires-clause-room g c = told-room c.args.agenda.now (may-enter-some c.in-Some.is c.requires)

pub insert-requires-clause-apart : goal.insert-requires-clause-apart
insert-requires-clause-apart g c =
    told-apart c.args.agenda.now.entries (apart-first (may-enter-some c.in-Some.is c.requires))

pub insert-requires-clause-after : goal.insert-requires-clause-after
insert-requires-clause-after g c = after-first (may-enter-some c.in-Some.is c.requires)

pub returns-in-Some : goal.returns-in-Some
returns-in-Some g c = entered-some c.args.agenda.now c.insert.new.self c.in-Some.is c.requires c.insert.ensures.inserted
