use Rattle.std.proofs.Common.{◌≡◌, List, ℕ, ◌++◌, get_or, ap, ◌∙◌}
use Rattle.std.specs.List.{flat_map}
use Rattle.ats_streams.specs.Branches.{leg_at, legs_of}
use Rattle.ats_streams.specs.Stream.{DeclaredStream}
use Rattle.ats_network.specs.Edits.{no_stream}
use Rattle.ats_network.specs.Network.{DeclaredNetwork}
use Rattle.ats_tally.specs.Listeners.{listener_at}
use Rattle.ats_explain_text.specs.Text.{hop_text, stream_line}
use Rattle.ats_explain_text.proofs.Lines.{listener_written, ports_apart, ports_used, stream_is}
use Rattle.ats_explain_text.proofs.printing.write_listener.Goals as goal

pub write_hops-requires-clause-used : goal.write_hops-requires-clause-used
write_hops-requires-clause-used c =
    let network : DeclaredNetwork = c.args.explanation.now in
    ports_used network c.args.stream c.index-streams-stream.result
    (stream_is network c.network-network.result.now c.streams.result.now c.args.stream c.index-streams-stream.result
    c.network-network.ensures.value c.streams.ensures.value c.index-streams-stream.is c.requires.stream)
    c.requires.stream

pub write_hops-requires-clause-apart : goal.write_hops-requires-clause-apart
write_hops-requires-clause-apart c =
    let network : DeclaredNetwork = c.args.explanation.now in
    ports_apart network c.args.stream c.index-streams-stream.result c.network-network.ensures.rules
    (stream_is network c.network-network.result.now c.streams.result.now c.args.stream c.index-streams-stream.result
    c.network-network.ensures.value c.streams.ensures.value c.index-streams-stream.is c.requires.stream)
    c.requires.stream

pub returns : goal.returns
returns c =
    let network : DeclaredNetwork = c.args.explanation.now in
    let s : DeclaredStream = get_or network.streams c.args.stream no_stream in
    let item : c.index-streams-stream.result ≡ s =
    stream_is network c.network-network.result.now c.streams.result.now c.args.stream c.index-streams-stream.result
    c.network-network.ensures.value c.streams.ensures.value c.index-streams-stream.is c.requires.stream in
    let name : c.listener_name-listener.result ≡ (listener_at network.topology s c.args.leg).name =
    c.listener_name-listener.ensures
    ∙ ap (λ (n : DeclaredNetwork). (listener_at n.topology (get_or n.streams c.args.stream no_stream) c.args.leg).name)
    c.network-network.ensures.value in
    listener_written network s c.args.leg c.listener_name-listener.result c.margin-margin.result
    c.args.out.now.items c.write_margin.new.out.items c.write_hops.new.out.items c.requires.leg name
    c.margin-margin.ensures
    (c.in_ok-write_margin.ensures
    ∙ ap (λ (n : List ℕ). c.args.out.now.items ++ stream_line n c.listener_name-listener.result c.margin-margin.result)
    (c.name.ensures ∙ ap (λ (t : DeclaredStream). t.name) item))
    (c.in_ok-write_hops.ensures
    ∙ ap (λ (t : DeclaredStream). c.write_margin.new.out.items
    ++ flat_map (hop_text network t) (leg_at (legs_of t.ports t.branches) c.args.leg)) item)
