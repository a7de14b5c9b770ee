use Rattle.std.proofs.Common.{arith}
use Rattle.ats_network_text.proofs.Legs.{all_listeners, next_listener}
use Rattle.ats_network_text.proofs.printing.write_listeners.Goals as goal

pub loop-leg-preserved : goal.loop-leg-preserved
loop-leg-preserved c =
    next_listener c.args.topology.now c.args.stream.now c.loop-leg.leg c.args.out.now.items c.loop-leg.out.items
    c.write_listener.new.out.items c.loop-leg.auto.leg
    (omega (arith, c.legs-leg-end.ensures.value, c.loop-leg-test.true)) c.loop-leg.invariant
    c.in_ok-write_listener.ensures

pub returns : goal.returns
returns c =
    all_listeners c.args.topology.now c.args.stream.now c.loop-leg.leg c.args.out.now.items c.loop-leg.out.items
    (omega (arith, c.legs-leg-end.ensures.value, c.loop-leg-test.false)) c.loop-leg.invariant
