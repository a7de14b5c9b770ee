use Rattle.std.proofs.Common.{sym, ◌∙◌, subst}
use Rattle.ats_topology.specs.Topology.{HasIdealClocks}
use Rattle.ats_network.specs.Senders.{sender_at}
use Rattle.ats_network_text.proofs.Hops.{ideal_is_declared}
use Rattle.ats_network_text.proofs.rates.has_declared_rates.Goals as goal

pub returns-then-has_ideal_clocks : goal.returns-then-has_ideal_clocks
returns-then-has_ideal_clocks c =
    c.if-has_ideal_clocks.true
    ∙ sym (ideal_is_declared c.args.network.now.topology (sender_at c.args.network.now c.args.stream)
    (subst HasIdealClocks c.topology.ensures.value (c.has_ideal_clocks.ensures.0 c.if-has_ideal_clocks.true)))
