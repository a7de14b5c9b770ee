use Rattle.std.proofs.Common.{◌≡◌, ◌≤◌, refl, sym, ap, ◌∙◌, subst}
use Rattle.std.specs.Prelude.{is_some}
use Rattle.std.proofs.lemmas.Bool.{false≢true}
use Rattle.ats_clock.specs.Rates.{IsCommitted, committed, output_of}
use Rattle.ats_clock.specs.declared.committed.Committed.{Committed}
use Rattle.ats_topology.specs.Topology.{DeclaredTopology}
use Rattle.ats_network.specs.Rates.{ports_to, talker_clock}
use Rattle.ats_network.specs.Sender.{Sender, stream_sender}
use Rattle.ats_network.proofs.RateLemmas.{ideal_clocks_keep_rates, positive_sent, within_before}
use Rattle.ats_network.proofs.rates.seen.Goals as goal

pub returns-then-has_ideal_clocks-clause-fits : goal.returns-then-has_ideal_clocks-clause-fits
returns-then-has_ideal_clocks-clause-fits c =
    let s : Sender = stream_sender c.args.stream.now in
    let kept = ideal_clocks_keep_rates c.args.topology.now s c.args.port
    (c.has_ideal_clocks.ensures.0 c.if-has_ideal_clocks.true) in (
      λ _. subst IsCommitted (c.declared-declared.ensures.value ∙ sym kept.seen) c.declared-declared.ensures.rules,
      λ _. refl,
    )

pub returns-then-has_ideal_clocks-clause-value : goal.returns-then-has_ideal_clocks-clause-value
returns-then-has_ideal_clocks-clause-value c =
    let s : Sender = stream_sender c.args.stream.now in
    let kept = ideal_clocks_keep_rates c.args.topology.now s c.args.port
    (c.has_ideal_clocks.ensures.0 c.if-has_ideal_clocks.true) in
    c.declared-declared.ensures.value ∙ sym kept.seen

pub returns-in_err-sent-clause-fits : goal.returns-in_err-sent-clause-fits
returns-in_err-sent-clause-fits c = (
  λ some. absurd (false≢true (ap is_some (sym c.from_residual.ensures) ∙ some)),
  λ end. absurd (false≢true (c.in_err-sent.ensures.fits.1 (subst IsCommitted (sym sent)
      (within_before topology (ports_to s c.args.port) (output_of (talker_clock topology s) declared)
      c.talker_clock.ensures.rules (positive_sent topology s c.talker_clock.ensures.rules positive) end)))),
)
  where
    topology : DeclaredTopology
    topology = c.args.topology.now

    s : Sender
    s = stream_sender c.args.stream.now

    declared : Committed
    declared = committed s.rate s.burst_bits

    sent : output_of c.talker_clock.result c.declared-declared.result ≡ output_of (talker_clock topology s) declared
    sent =
        ap (λ clock. output_of clock c.declared-declared.result) c.talker_clock.ensures.value
        ∙ ap (output_of (talker_clock topology s)) c.declared-declared.ensures.value

    positive : 1 ≤ s.rate
    positive = subst (λ (d : Committed). 1 ≤ d.rate) c.declared-declared.ensures.value
        c.declared-declared.ensures.rules.rate.positive
