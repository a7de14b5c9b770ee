use Rattle.std.proofs.Common.{◌+◌, ◌<◌, length, take, sym, subst, arith}
use Rattle.ats_network.specs.Network.{senders_of}
use Rattle.ats_certificate.specs.PortSums.{senders_at}
use Rattle.ats_tally.specs.Tally.{IsTally}
use Rattle.ats_tally.specs.declared.tally.Tally.{Tally}
use Rattle.ats_tally.proofs.Places.{used_class}
use Rattle.ats_tally.proofs.Network.{first_within, count_more}
use Rattle.ats_bound.proofs.rows.tally_at.Goals as goal

pub with_user-tally-requires-clause-room : goal.with_user-tally-requires-clause-room
with_user-tally-requires-clause-room c =
    first_within c.args.network.now c.args.port c.args.class c.loop-sender.sender c.loop-sender.tally
    c.senders-sender-end.ensures.rules
    (used_class c.args.network.now c.args.port c.args.class c.senders-sender-end.ensures.rules c.requires)
    c.loop-sender.invariant

pub loop-sender-preserved : goal.loop-sender-preserved
loop-sender-preserved c =
    let within : c.loop-sender.sender < length (senders_of c.args.network.now) =
    omega (arith, c.loop-sender-test.true, c.senders-sender-end.ensures.value) in
    subst (λ (t : Tally). IsTally c.args.class
    (senders_at c.args.network.now.topology c.args.port
    (take (c.loop-sender.sender + 1) (senders_of c.args.network.now))) t)
    (sym c.with_user-tally.ensures)
    (count_more c.args.network.now c.args.port c.args.class c.loop-sender.sender c.loop-sender.tally within
    c.loop-sender.invariant)
