use Rattle.std.proofs.Common.{arith}
use Rattle.ats_network.specs.Network.{senders_of}
use Rattle.ats_network.specs.Senders.{no_sender}
use Rattle.ats_tally.proofs.Changed.{entered_next}
use Rattle.ats_tally.proofs.Limits.{room_first}
use Rattle.ats_tally.proofs.shares.shares_of.Goals as goal

pub enter_along-requires-clause-room : goal.enter_along-requires-clause-room
enter_along-requires-clause-room c = room_first c.args.network.now c.loop-sender.sender c.loop-sender.shares
    c.senders-sender-end.ensures.rules c.loop-sender.invariant

pub loop-sender-preserved : goal.loop-sender-preserved
loop-sender-preserved c = entered_next c.args.network.now.topology (senders_of c.args.network.now)
    c.loop-sender.sender no_sender c.loop-sender.shares c.enter_along.new.shares
    (omega (arith, c.loop-sender-test.true, c.senders-sender-end.ensures.value)) c.loop-sender.invariant
    c.enter_along.ensures
