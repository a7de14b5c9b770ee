use Rattle.std.proofs.Common.{refl, arith}
use Rattle.ats_transmit.proofs.Held.{none-held}
use Rattle.ats_transmit.proofs.Kept.{kept-open}
use Rattle.ats_transmit.proofs.port.Port.open.Goals as goal

pub invariant_of-result : goal.invariant_of-result
invariant_of-result g c =
    rw c.new.ensures
    (kept-open g.T.Tie.key c.args.ps_per_bit c.args.rooms c.args.tie c.in_ok-waiting.waiting (omega arith)
    c.in_ok-waiting.ensures)

pub returns-clause-value : goal.returns-clause-value
returns-clause-value g c =
    rw (c.new.ensures, none-held c.in_ok-waiting.waiting c.in_ok-waiting.ensures.empty) refl
