use Rattle.std.proofs.Common.{arith}
use Rattle.ats_queue.specs.Inside.{IsInRange}
use Rattle.ats_queue.proofs.Taken.{kept-insert}
use Rattle.ats_queue.proofs.queue.ClassQueue.insert.Goals as goal

pub invariant_of-self : goal.invariant_of-self
invariant_of-self g c =
    let range : IsInRange c.args.queued = record { frame = omega arith; sender = omega arith } in
    kept-insert c.args.queued c.self.inside.held.items c.insert.new.self.items c.insert.ensures.items range
    (rw (← c.self.view_is) at c.requires.new) c.self.invariant
