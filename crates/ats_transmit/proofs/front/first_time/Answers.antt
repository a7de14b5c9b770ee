use Rattle.ats_transmit.proofs.Fronts.{alone-next}
use Rattle.ats_transmit.proofs.front.first_time.Goals as goal

pub returns-in-Alone : goal.returns-in-Alone
returns-in-Alone g c =
    let alone = rw c.in-Alone.is at c.requires in
    rw c.in-Alone.is (alone-next c.args.queues.now c.in-Alone.offer alone)
