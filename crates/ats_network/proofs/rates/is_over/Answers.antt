use Rattle.std.proofs.Common.{◌≡◌, Bool, true, false, not, ap, refl, sym, ◌∙◌, arith}
use Rattle.std.proofs.lemmas.Bool.{false≢true}
use Rattle.ats_network.specs.Rates.{committed_at, scheduled_at}
use Rattle.ats_network.specs.Sender.{Sender, stream_sender}
use Rattle.ats_network.proofs.RateLemmas.{committed_no_greater, declared_no_greater, none_over}
use Rattle.ats_network.proofs.rates.is_over.Goals as goal

turned : (b : Bool) → not b ≡ true → b ≡ false
turned true h = absurd (false≢true h)
turned false h = refl

pub returns : goal.returns
returns c =
    let s : Sender = stream_sender c.args.stream.now in
    let is = c.scheduled.ensures.topology in
    none_over c.is_none.result (committed_at c.args.topology.now c.args.port s)
    (scheduled_at c.args.topology.now c.args.port s)
    (committed_no_greater c.args.topology.now s c.args.port is)
    (omega (
      arith,
      (declared_no_greater c.args.topology.now s c.args.port is).rate,
      c.scheduled.ensures.stream.rules.rate.positive,
    ))
    (λ some. c.scheduled.ensures.fits.0 (c.is_none.ensures ∙ ap not some))
    (λ fits. turned c.is_none.result (sym c.is_none.ensures ∙ c.scheduled.ensures.fits.1 fits))
