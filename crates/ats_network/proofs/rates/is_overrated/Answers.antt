use Rattle.std.proofs.Common.{not, ap, sym, ◌∙◌}
use Rattle.ats_network.specs.Sender.{stream_sender}
use Rattle.ats_network.proofs.RateLemmas.{none_overrated}
use Rattle.ats_network.proofs.rates.is_overrated.Goals as goal

pub returns-else-not-has_ideal_clocks : goal.returns-else-not-has_ideal_clocks
returns-else-not-has_ideal_clocks c =
    let rules = c.ports-rules.ensures.rules.rules in
    ap not c.if-not-has_ideal_clocks.false
    ∙ sym (none_overrated c.args.topology.now (stream_sender c.args.stream.now)
    (c.has_ideal_clocks.ensures.0 c.if-not-has_ideal_clocks.false)
    (record { rate = rules.rate; burst = rules.burst }))
