use Rattle.std.proofs.Common.{ℕ, ◌<◌, length, get_or, sym, ap, subst, ◌∙◌}
use Rattle.std.proofs.lemmas.Bool.{ltb-true}
use Rattle.ats_topology.specs.Topology.{DeclaredTopology}
use Rattle.ats_network.specs.Class.{seen_at}
use Rattle.ats_network.specs.Network.{DeclaredNetwork}
use Rattle.ats_network.specs.Rates.{IsRated}
use Rattle.ats_network.specs.Sender.{Sender, stream_sender}
use Rattle.ats_network.specs.Senders.{sender_at}
use Rattle.ats_tally.proofs.SeenLemmas.{flow_seen, stream_rated}
use Rattle.ats_tally.proofs.seen.SeenSender.at.Goals as goal

pub of_stream-requires-clause-rated : goal.of_stream-requires-clause-rated
of_stream-requires-clause-rated c =
    let network : DeclaredNetwork = c.args.network.now in
    let s : Sender = stream_sender c.in-Stream.stream.now in
    subst (λ (t : DeclaredTopology). IsRated t s (get_or s.ports c.args.hop 0)) (sym c.topology.ensures.value)
    (stream_rated network c.args.sender c.args.hop s c.topology.ensures.rules
    (ltb-true c.args.sender (length network.streams) (sym c.in-Stream.ensures.kind)) c.in-Stream.ensures.value
    (subst (λ (t : Sender). c.args.hop < length t.ports) (sym c.in-Stream.ensures.value) c.requires.hop))

pub returns-in-Flow-clause-seen : goal.returns-in-Flow-clause-seen
returns-in-Flow-clause-seen c =
    let network : DeclaredNetwork = c.args.network.now in
    let port : ℕ = get_or (sender_at network c.args.sender).ports c.args.hop 0 in
    c.of_flow.ensures.value
    ∙ flow_seen network.topology c.in-Flow.flow.now port c.in-Flow.ensures.rules.topology
    ∙ ap (seen_at network.topology port) c.in-Flow.ensures.value
