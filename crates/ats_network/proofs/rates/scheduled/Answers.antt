use Rattle.std.proofs.Common.{sym, ap, ◌∙◌, arith}
use Rattle.std.specs.Prelude.{is_some}
use Rattle.std.proofs.lemmas.Bool.{false≢true}
use Rattle.ats_topology.specs.Topology.{DeclaredTopology}
use Rattle.ats_network.specs.Rates.{committed_at, scheduled_at}
use Rattle.ats_network.specs.Sender.{Sender, stream_sender}
use Rattle.ats_network.proofs.RateLemmas.{committed_no_greater, declared_no_greater, within_greater}
use Rattle.ats_network.proofs.rates.scheduled.Goals as goal

-- what is over the limits at the port is over them behind it
pub returns-in_err-seen-clause-fits : goal.returns-in_err-seen-clause-fits
returns-in_err-seen-clause-fits c = (
  λ some. absurd (false≢true (ap is_some (sym c.from_residual.ensures) ∙ some)),
  λ end. absurd (false≢true (c.in_err-seen.ensures.fits.1
      (within_greater (committed_at topology c.args.port s) (scheduled_at topology c.args.port s)
      (committed_no_greater topology s c.args.port c.clock_behind-clock.ensures.rules)
      (omega (
        arith,
        (declared_no_greater topology s c.args.port c.clock_behind-clock.ensures.rules).rate,
        c.ports-rules.ensures.rules.rules.rate.positive,
      ))
      end))),
)
  where
    topology : DeclaredTopology
    topology = c.args.topology.now

    s : Sender
    s = stream_sender c.args.stream.now
