use Rattle.std.proofs.Common.{arith}
use Rattle.ats_port_capture.proofs.Runs.{frame_more, frames_over}
use Rattle.ats_port_capture.proofs.sending.sent_by.Goals as goal

pub loop-frame-preserved : goal.loop-frame-preserved
loop-frame-preserved c = record {
  told = frame_more c.args.network.now c.args.run.now c.args.port c.loop-frame.frame c.loop-frame.sent.items
      c.push_sent.new.sent.items (omega (arith, c.len-frame-end.ensures.value)) c.in_ok-push_sent.ensures.all
      c.loop-frame.invariant.told;
  each = c.in_ok-push_sent.ensures.each;
}

pub returns-clause-all : goal.returns-clause-all
returns-clause-all c =
    frames_over c.args.network.now c.args.run.now c.args.port c.loop-frame.frame c.loop-frame.sent.items
    (omega (arith, c.len-frame-end.ensures.value)) c.loop-frame.invariant.told
