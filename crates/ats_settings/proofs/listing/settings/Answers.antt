use Rattle.std.proofs.Common.{arith}
use Rattle.std.proofs.lemmas.Result.{IfOk-weaker}
use Rattle.ats_settings.specs.Settings.{sender_settings}
use Rattle.ats_settings.proofs.Places.{each_within, sender_more}
use Rattle.ats_settings.proofs.listing.settings.Goals as goal

pub loop-sender-preserved : goal.loop-sender-preserved
loop-sender-preserved c =
    sender_more (sender_settings c.args.network.now) c.loop-sender.sender c.loop-sender.made.items
    c.push_settings.new.made.items c.loop-sender.invariant c.in_ok-push_settings.ensures

pub returns-clause-each : goal.returns-clause-each
returns-clause-each c = IfOk-weaker c.in_order.result _ _
    (λ settings order. each_within c.args.network.now c.loop-sender.sender c.loop-sender.made.items settings.items
    c.senders-sender-end.ensures.rules
    (omega (arith, c.senders-sender-end.ensures.value)) c.loop-sender.invariant order)
    c.in_order.ensures
