use Rattle.ats_transmit.proofs.Queues.{some_taken, takes_from}
use Rattle.ats_transmit.proofs.choice.take_from.Goals as goal

pub unwrap-queued-requires : goal.unwrap-queued-requires
unwrap-queued-requires g c =
    let before = c.index_mut.result.now in
    some_taken c.take.result c.args.now.0 before.held c.take.ensures.none.0
    (rw (← c.index_mut.ensures.value) at (c.requires.highest.eligible before))

pub returns : goal.returns
returns g c =
    let takes = rw c.unwrap-queued.ensures at c.take.ensures.taken in
    takes_from g.T.Tie.key c.args.now.0 c.args.class c.args.queues.now.items c.index_mut.result.now c.take.new.self
    c.unwrap-queued.result c.of.result c.of.ensures c.index_mut.ensures.value c.take.ensures.rest takes
