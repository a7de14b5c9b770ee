use Rattle.std.proofs.Common.{◌<◌, length, true, false, None, sym, ◌∙◌, arith}
use Rattle.ats_network.specs.SenderView.{sender_of}
use Rattle.ats_fit.specs.declared.measured.Measured.{Measured}
use Rattle.ats_fit.proofs.OverLaw.{over-more, over-all}
use Rattle.ats_fit.proofs.over.senders_over.Goals.{then-is_over, else-is_over}
use Rattle.ats_fit.proofs.over.senders_over.Goals as goal

none : Measured
none = record { frames = 0; sizes = None; burst_bits = None }

pub loop-sender-preserved : goal.loop-sender-preserved
unfolding none
loop-sender-preserved c =
    let below : c.loop-sender.sender < length c.args.measured.now =
    omega (arith, c.requires, c.senders-sender-end.ensures.value) in
    elim c.if-is_over.branch [
      | then-is_over w ↦ (
          let more = over-more c.args.network.now c.args.measured.now c.loop-sender.sender
          (sender_of c.sender.result) none true c.requires below c.sender.ensures.value
          (sym c.is_over.ensures ∙ w.if-is_over.true) in
          omega (arith, w.over-is, c.loop-sender.invariant, more))
      | else-is_over w ↦ (
          let more = over-more c.args.network.now c.args.measured.now c.loop-sender.sender
          (sender_of c.sender.result) none false c.requires below c.sender.ensures.value
          (sym c.is_over.ensures ∙ w.if-is_over.false) in
          omega (arith, w.over-is, c.loop-sender.invariant, more))
    ]

pub returns : goal.returns
returns c =
    over-all c.args.network.now c.args.measured.now c.loop-sender.sender c.loop-sender.over
    (omega (arith, c.senders-sender-end.ensures.value)) c.loop-sender.invariant
