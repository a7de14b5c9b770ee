use Rattle.std.proofs.Common.{◌≡◌, length, get_or, ap, arith}
use Rattle.ats_topology.specs.Topology.{DeclaredTopology}
use Rattle.ats_streams.specs.Stream.{DeclaredStream}
use Rattle.ats_network.specs.Edits.{no_stream}
use Rattle.ats_network.specs.Listeners.{listeners_of}
use Rattle.ats_network.specs.Network.{DeclaredNetwork}
use Rattle.ats_tally.specs.Listeners.{no_listener}
use Rattle.ats_tally.proofs.ListenerLemmas.{listeners-length}
use Rattle.ats_verdict_text.specs.Text.{listener_lines}
use Rattle.ats_verdict_text.proofs.Lines.{all_lines, next_lines, stream_is}
use Rattle.ats_verdict_text.proofs.acceptance.write_stream.Goals.{After-legs-leg-end}
use Rattle.ats_verdict_text.proofs.acceptance.write_stream.Goals as goal

-- there are as many listeners as legs
many : (c : After-legs-leg-end) → c.legs-leg-end.result
    ≡ length (listeners_of c.args.delays.now.network.topology (get_or c.args.delays.now.network.streams c.args.stream
    no_stream))
many c =
    let network : DeclaredNetwork = c.args.delays.now.network in
    let s : DeclaredStream = get_or network.streams c.args.stream no_stream in
    let item : c.index-streams-stream.result ≡ s =
    stream_is network c.network.result.now c.streams.result.now c.args.stream c.index-streams-stream.result
    c.network.ensures.value c.streams.ensures.value c.index-streams-stream.is c.requires in
    omega (
      arith,
      c.legs-leg-end.ensures.value,
      ap (λ (t : DeclaredStream). length t.branches) item,
      listeners-length network.topology s,
    )

pub loop-leg-preserved : goal.loop-leg-preserved
loop-leg-preserved c =
    let topology : DeclaredTopology = c.args.delays.now.network.topology in
    let s : DeclaredStream = get_or c.args.delays.now.network.streams c.args.stream no_stream in
    next_lines (listener_lines topology c.args.delays.now.rows s) (listeners_of topology s) c.loop-leg.leg no_listener
    c.args.out.now.items c.loop-leg.out.items c.write_listener.new.out.items
    (omega (arith, many (goal.at.loop-leg-preserved c).After-legs-leg-end, c.loop-leg-test.true)) c.loop-leg.invariant
    c.in_ok-write_listener.ensures

pub returns : goal.returns
returns c =
    let topology : DeclaredTopology = c.args.delays.now.network.topology in
    let s : DeclaredStream = get_or c.args.delays.now.network.streams c.args.stream no_stream in
    all_lines (listener_lines topology c.args.delays.now.rows s) (listeners_of topology s) c.loop-leg.leg
    c.args.out.now.items c.loop-leg.out.items
    (omega (arith, many (goal.at.returns c).After-legs-leg-end, c.loop-leg-test.false)) c.loop-leg.invariant
