use Rattle.std.proofs.Common.{◌≡◌, ◌≤◌}
use Rattle.ats_events.proofs.actor.drive.Given as goal

-- the actor's invariant holds, and it follows the one that it was
abbrev pub invariant-loop-entry : goal.invariant-loop-entry
invariant-loop-entry g l = record {
  holds : g.A.Actor.holds l.actor l.agenda.entries l.agenda.capacity l.agenda.order;
  follows : g.A.Actor.follows l.actor l.initial.actor;
  left : g.A.Actor.left l.actor ≤ g.A.Actor.left l.initial.actor;
  capacity : l.agenda.capacity ≡ l.initial.agenda.capacity;
  order : l.agenda.order ≡ l.initial.agenda.order;
}

-- what the actor has left
abbrev pub decreases-loop-entry : goal.decreases-loop-entry
decreases-loop-entry g l = g.A.Actor.left l.actor
