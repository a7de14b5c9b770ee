use Rattle.std.proofs.Common.{ℕ, sym, ap, ◌∙◌, arith}
use Rattle.std.proofs.lemmas.List.{take_all}
use Rattle.ats_network.specs.Network.{senders_of}
use Rattle.ats_network.specs.Senders.{no_sender, sender_at}
use Rattle.ats_witness.specs.Made.{greatest_among, with_travel}
use Rattle.ats_witness.proofs.TravelLemmas.{greatest_more}
use Rattle.ats_witness.proofs.burst.greatest_travel.Goals as goal

pub loop-sender-preserved : goal.loop-sender-preserved
loop-sender-preserved c =
    let network = c.args.network.now in (
      c.with_travel-greatest.ensures.value
          ∙ ap (λ (n : ℕ). with_travel network c.args.port n (sender_at network c.loop-sender.sender))
          c.loop-sender.invariant.0
          ∙ sym (greatest_more network c.args.port (senders_of network) c.loop-sender.sender no_sender
          (omega (arith, c.senders-sender-end.ensures.value))),
      c.with_travel-greatest.ensures.most,
    )

pub returns-clause-value : goal.returns-clause-value
returns-clause-value c =
    let network = c.args.network.now in
    c.loop-sender.invariant.0
    ∙ ap (greatest_among network c.args.port)
    (take_all c.loop-sender.sender (senders_of network) (omega (arith, c.senders-sender-end.ensures.value)))
