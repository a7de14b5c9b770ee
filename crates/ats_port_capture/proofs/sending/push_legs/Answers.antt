use Rattle.std.proofs.Common.{arith}
use Rattle.ats_trace.specs.Stored.{no_travel}
use Rattle.ats_port_capture.proofs.Ways.{leg_more, legs_over}
use Rattle.ats_port_capture.proofs.sending.push_legs.Goals as goal

pub loop-leg-preserved : goal.loop-leg-preserved
loop-leg-preserved c = record {
  told = leg_more c.args.network.now c.args.run.now c.args.port c.args.frame c.loop-leg.leg c.args.sent.now.items
      c.loop-leg.sent.items c.push_leg.new.sent.items
      (c.requires.journeys c.args.frame no_travel c.requires.frame)
      (omega (arith, c.loop-leg-test.true, c.legs-leg-end.ensures)) c.in_ok-push_leg.ensures.all
      c.loop-leg.invariant.told;
  each = c.in_ok-push_leg.ensures.each;
}

pub returns-clause-all : goal.returns-clause-all
returns-clause-all c =
    legs_over c.args.network.now c.args.run.now c.args.port c.args.frame c.loop-leg.leg c.args.sent.now.items
    c.loop-leg.sent.items (omega (arith, c.loop-leg-test.false, c.legs-leg-end.ensures)) c.loop-leg.invariant.told
