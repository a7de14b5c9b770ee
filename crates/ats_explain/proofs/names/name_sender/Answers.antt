use Rattle.std.proofs.Common.{◌≡◌, ℕ, ◌<◌, List, length, slice_index_or, ap, subst, ◌∙◌, arith}
use Rattle.std.proofs.lemmas.List.{take_all}
use Rattle.ats_network.specs.Class.{PortSender, seen_at}
use Rattle.ats_network.specs.Network.{DeclaredNetwork}
use Rattle.ats_network.specs.Sender.{Sender}
use Rattle.ats_network.specs.Senders.{IsSender, sender_at, no_sender}
use Rattle.ats_network.proofs.SenderLemmas.{each_is_sender}
use Rattle.ats_tally.specs.SenderAtPort.{port_sender}
use Rattle.ats_tally.proofs.Network.{few_ports}
use Rattle.ats_explain.specs.Table.{NamesAt}
use Rattle.ats_explain.proofs.Named.{NamesAlong, along_more, named_more}
use Rattle.ats_explain.proofs.names.name_sender.Goals as goal

pub overflow_cast-hop : goal.overflow_cast-hop
overflow_cast-hop c =
    let few = few_ports c.args.tallies.now c.args.sender c.network-network.ensures.rules c.requires.sender in
    let long : length c.sender_ports-port-items.result.now ≡ length (sender_at c.args.tallies.now c.args.sender).ports =
    ap (λ (ports : List ℕ). length ports) c.sender_ports-port-items.ensures.value
    ∙ ap (λ (n : DeclaredNetwork). length (sender_at n c.args.sender).ports) c.network-network.ensures.value in
    omega (arith, long, few)

pub name_at-requires-clause-port : goal.name_at-requires-clause-port
name_at-requires-clause-port c =
    let path : List ℕ = (sender_at c.args.tallies.now c.args.sender).ports in
    let is : IsSender c.args.tallies.now.topology (sender_at c.args.tallies.now c.args.sender) = each_is_sender
    c.args.tallies.now c.network-network.ensures.rules c.args.sender no_sender c.requires.sender in
    let same : c.sender_ports-port-items.result.now ≡ path =
    c.sender_ports-port-items.ensures.value
    ∙ ap (λ (n : DeclaredNetwork). (sender_at n c.args.sender).ports) c.network-network.ensures.value in
    let long : length c.sender_ports-port-items.result.now ≡ length path = ap (λ (ports : List ℕ). length ports) same in
    let here : slice_index_or c.sender_ports-port-items.result.now c.loop-hop.hop 0
    ≡ slice_index_or path c.loop-hop.hop 0 = ap (λ (ports : List ℕ). slice_index_or ports c.loop-hop.hop 0) same in
    let within : slice_index_or path c.loop-hop.hop 0 < length c.args.tallies.now.topology.ports =
    is.ports c.loop-hop.hop 0 (omega (arith, long)) in
    omega (arith, here, within)

pub loop-hop-preserved : goal.loop-hop-preserved
loop-hop-preserved c =
    let network : DeclaredNetwork = c.args.tallies.now in
    let sender : Sender = sender_at network c.args.sender in
    let hop : ℕ = c.loop-hop.hop in
    let same : c.sender_ports-port-items.result.now ≡ sender.ports =
    c.sender_ports-port-items.ensures.value
    ∙ ap (λ (n : DeclaredNetwork). (sender_at n c.args.sender).ports) c.network-network.ensures.value in
    let long : length c.sender_ports-port-items.result.now ≡ length sender.ports =
    ap (λ (ports : List ℕ). length ports) same in
    let here : slice_index_or c.sender_ports-port-items.result.now hop 0 ≡ slice_index_or sender.ports hop 0 =
    ap (λ (ports : List ℕ). slice_index_or ports hop 0) same in
    let seen : port_sender c.at-seen.result ≡ seen_at network.topology (slice_index_or sender.ports hop 0) sender =
    c.at-seen.ensures.seen
    ∙ ap (λ (n : DeclaredNetwork).
    seen_at n.topology (slice_index_or (sender_at n c.args.sender).ports hop 0) (sender_at n c.args.sender))
    c.network-network.ensures.value in
    let named : c.sender_name-name.result ≡ sender.name =
    c.sender_name-name.ensures.value
    ∙ ap (λ (n : DeclaredNetwork). (sender_at n c.args.sender).name) c.network-network.ensures.value in
    along_more network sender hop c.args.names.now c.loop-hop.names c.name_at.new.names
    (omega (arith, long)) c.loop-hop.invariant
    (subst (λ (port : ℕ). NamesAt network port (seen_at network.topology (slice_index_or sender.ports hop 0) sender)
    sender.name 8 c.loop-hop.names c.name_at.new.names) here
    (subst (λ (s : PortSender). NamesAt network (slice_index_or c.sender_ports-port-items.result.now hop 0) s
    sender.name 8 c.loop-hop.names c.name_at.new.names) seen
    (subst (λ (name : List ℕ). NamesAt network (slice_index_or c.sender_ports-port-items.result.now hop 0)
    (port_sender c.at-seen.result) name 8 c.loop-hop.names c.name_at.new.names) named
    c.name_at.ensures)))

pub returns : goal.returns
returns c =
    let network : DeclaredNetwork = c.args.tallies.now in
    let sender : Sender = sender_at network c.args.sender in
    let same : c.sender_ports-port-items.result.now ≡ sender.ports =
    c.sender_ports-port-items.ensures.value
    ∙ ap (λ (n : DeclaredNetwork). (sender_at n c.args.sender).ports) c.network-network.ensures.value in
    let long : length c.sender_ports-port-items.result.now ≡ length sender.ports =
    ap (λ (ports : List ℕ). length ports) same in
    named_more network c.args.sender c.args.names.now c.loop-hop.names c.requires.sender
    c.requires.before
    (subst (λ (ports : List ℕ). NamesAlong network sender ports c.args.names.now c.loop-hop.names)
    (take_all c.loop-hop.hop sender.ports (omega (arith, long))) c.loop-hop.invariant)
