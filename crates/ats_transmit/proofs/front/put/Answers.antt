use Rattle.ats_transmit.proofs.Fronts.{put-holds}
use Rattle.ats_transmit.proofs.front.put.Goals as goal

pub returns : goal.returns
returns g c =
    put-holds c.args.queues.now.items c.args.offer c.index_mut.result.now c.insert.new.self c.index_mut.ensures.value
    (rw c.queued.ensures at c.insert.ensures.held) c.insert.ensures.rest
