use Rattle.std.proofs.Common.{◌≡◌, List, ℕ, ◌++◌, get_or, ap, ◌∙◌, codes, decimal}
use Rattle.ats_streams.specs.Stream.{DeclaredStream}
use Rattle.ats_network.specs.Edits.{no_stream}
use Rattle.ats_network.specs.Listeners.{listener_text}
use Rattle.ats_network.specs.Network.{DeclaredNetwork}
use Rattle.ats_certificate.specs.declared.row.Row.{Row}
use Rattle.ats_tally.specs.Bounds.{RowsAt}
use Rattle.ats_tally.specs.Listeners.{listener_at}
use Rattle.ats_verdict_text.proofs.Lines.{hops_same, listener_written, ports_apart, ports_inside, stream_is}
use Rattle.ats_verdict_text.proofs.acceptance.write_listener.Goals as goal

pub write_hops-requires-clause-inside : goal.write_hops-requires-clause-inside
write_hops-requires-clause-inside c =
    let network : DeclaredNetwork = c.args.delays.now.network in
    ports_inside network c.network-network.result.now c.topology.result.now c.args.stream c.index-streams-stream.result
    c.along-sum.ensures.rules c.network-network.ensures.value c.topology.ensures.value
    (stream_is network c.network-network.result.now c.streams.result.now c.args.stream c.index-streams-stream.result
    c.network-network.ensures.value c.streams.ensures.value c.index-streams-stream.is c.requires.stream)
    c.requires.stream

pub write_hops-requires-clause-apart : goal.write_hops-requires-clause-apart
write_hops-requires-clause-apart c =
    let network : DeclaredNetwork = c.args.delays.now.network in
    ports_apart network c.args.stream c.index-streams-stream.result c.along-sum.ensures.rules
    (stream_is network c.network-network.result.now c.streams.result.now c.args.stream c.index-streams-stream.result
    c.network-network.ensures.value c.streams.ensures.value c.index-streams-stream.is c.requires.stream)
    c.requires.stream

pub returns : goal.returns
returns c =
    let network : DeclaredNetwork = c.args.delays.now.network in
    let rows : List Row = c.args.delays.now.rows in
    let s : DeclaredStream = get_or network.streams c.args.stream no_stream in
    let given : DeclaredNetwork = c.network-network.result.now in
    let item : c.index-streams-stream.result ≡ s =
    stream_is network given c.streams.result.now c.args.stream c.index-streams-stream.result
    c.network-network.ensures.value c.streams.ensures.value c.index-streams-stream.is c.requires.stream in
    let shape : c.topology.result.now ≡ network.topology =
    c.topology.ensures.value ∙ ap (λ (n : DeclaredNetwork). n.topology) c.network-network.ensures.value in
    let held : c.bounds.result.now.rows ≡ rows = ap (λ (b : RowsAt). b.rows) c.bounds.ensures in
    let name : c.listener_name-listener.result ≡ (listener_at network.topology s c.args.leg).name =
    c.listener_name-listener.ensures
    ∙ ap (λ (n : DeclaredNetwork). (listener_at n.topology (get_or n.streams c.args.stream no_stream) c.args.leg).name)
    c.network-network.ensures.value in
    listener_written network.topology rows s c.args.leg c.along-sum.result c.listener_name-listener.result
    c.args.out.now.items c.write_hops.new.out.items c.write_named.new.out.items c.extend_from_slice.new.self.items
    c.requires.leg name c.along-sum.ensures.value
    (c.in_ok-write_hops.ensures ∙ ap (λ (t : List ℕ). c.args.out.now.items ++ t)
    (hops_same network.topology c.topology.result.now rows c.bounds.result.now.rows s c.index-streams-stream.result
    c.args.leg shape held item))
    (c.in_ok-write_named.ensures.written
    ∙ ap (λ (n : List ℕ). c.write_hops.new.out.items ++ (codes "sum " ++ listener_text n c.listener_name-listener.result
    ++ codes " " ++ decimal c.along-sum.result)) (c.name.ensures ∙ ap (λ (t : DeclaredStream). t.name) item))
    c.in_ok-extend_from_slice.ensures.items
