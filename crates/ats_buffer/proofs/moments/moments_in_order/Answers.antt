use Rattle.std.proofs.lemmas.Result.{IfOk-weaker}
use Rattle.ats_buffer.specs.Moments.{AreReordered, AreMomentsOf}
use Rattle.ats_buffer.proofs.Occupied.{moments_are}
use Rattle.ats_buffer.proofs.moments.moments_in_order.Goals as goal

pub returns : goal.returns
returns c =
    IfOk-weaker c.in_order.result
    (λ ordered. AreReordered c.in_ok-moments_by_frame.field-0.items ordered.items)
    (λ ordered. AreMomentsOf c.args.network.now c.args.run.now ordered.items)
    (λ ordered is. moments_are c.args.network.now c.args.run.now c.in_ok-moments_by_frame.field-0.items ordered.items
    c.in_ok-moments_by_frame.ensures is)
    c.in_order.ensures
