use Rattle.ats_transmit.proofs.Queues.{next_time-append}
use Rattle.ats_transmit.proofs.choice.earlier.Goals as goal

pub returns-in-Some-Some : goal.returns-in-Some-Some
returns-in-Some-Some c xs ys n m =
    let x = rw c.in-Some-Some.is-0 at n in
    let y = rw c.in-Some-Some.is-1 at m in
    rw c.min.ensures (next_time-append xs ys c.in-Some-Some.x.0 c.in-Some-Some.y.0 x y)
