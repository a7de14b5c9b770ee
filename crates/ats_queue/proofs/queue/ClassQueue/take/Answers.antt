use Rattle.std.proofs.lemmas.Option.{IfSome_then}
use Rattle.ats_queue.proofs.Taken.{kept-take, takes_first}
use Rattle.ats_queue.proofs.queue.ClassQueue.take.Goals as goal

pub invariant_of-self : goal.invariant_of-self
invariant_of-self g c =
    kept-take c.pop.result _ c.self.inside.held c.pop.new.self c.pop.ensures.popped c.pop.ensures.unchanged
    c.self.invariant

pub returns-clause-taken : goal.returns-clause-taken
returns-clause-taken g c =
    let tie = c.self.inside.held.order.tie in
    rw (← c.self.view_is)
    (IfSome_then c.pop.result c.pop.ensures.popped
    (λ x pops. takes_first (g.T.Tie.key tie) c.args.now.0 c.self.inside.held.items c.pop.new.self.items
    c.in_ok-first.first x (g.met.T.Tie.distinct tie) c.self.invariant c.in_ok-first.ensures.first c.if-now-first.false
    pops))
