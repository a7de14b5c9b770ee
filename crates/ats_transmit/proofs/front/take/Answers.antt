use Rattle.std.proofs.Common.{◌<◌, arith}
use Rattle.ats_queue.specs.declared.queued.Queued.{Queued}
use Rattle.ats_transmit.specs.PortQueues.{queued_as, queued_of}
use Rattle.ats_transmit.specs.Waiting.{with_queued}
use Rattle.ats_transmit.proofs.Fronts.{all-one, alone-queued, alone-finds}
use Rattle.ats_transmit.proofs.front.take.Goals as goal

pub returns-then-now-offer-clause-none : goal.returns-then-now-offer-clause-none
returns-then-now-offer-clause-none g c =
    let qs = c.args.queues.now.items in
    let offer = c.in-Alone.offer in
    let q : Queued = queued_as offer in
    let alone = rw c.in-Alone.is at c.requires.front in
    rw c.in-Alone.is
    (all-one (λ (x : Queued). c.args.now.0 < x.eligible.0) (queued_of (with_queued offer.class q qs)) q
    (alone-queued offer.class q qs alone.empty alone.within) (omega (arith, c.if-now-offer.true)))

pub returns-else-now-offer-clause-found : goal.returns-else-now-offer-clause-found
returns-else-now-offer-clause-found g c =
    let alone = rw c.in-Alone.is at c.requires.front in
    rw c.in-Alone.is
    (alone-finds g.T.Tie.key c.args.now.0 c.args.queues.now.items c.in-Alone.offer alone
    (omega (arith, c.if-now-offer.false)))
