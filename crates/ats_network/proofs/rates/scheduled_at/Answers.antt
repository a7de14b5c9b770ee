use Rattle.std.proofs.Common.{sym, ◌∙◌}
use Rattle.ats_network.specs.Sender.{stream_sender}
use Rattle.ats_network.proofs.RateLemmas.{ideal_clocks_keep_rates}
use Rattle.ats_network.proofs.rates.scheduled_at.Goals as goal

pub returns-then-has_ideal_clocks : goal.returns-then-has_ideal_clocks
returns-then-has_ideal_clocks c =
    c.declared.ensures.value
    ∙ sym (ideal_clocks_keep_rates c.args.topology.now (stream_sender c.args.stream.now) c.args.port
    (c.has_ideal_clocks.ensures.0 c.if-has_ideal_clocks.true)).scheduled
