use Rattle.ats_witness.proofs.BurstLemmas.{sender_more}
use Rattle.ats_witness.proofs.burst.by_sender.Goals as goal

pub loop-sender-preserved : goal.loop-sender-preserved
loop-sender-preserved c =
    sender_more c.args.network.now c.args.port c.args.class c.loop-sender.sender c.loop-sender.releases.items
    c.push_frames.new.releases.items c.loop-sender.invariant c.in_ok-push_frames.ensures
