use Rattle.std.proofs.Common.{◌≡◌, ◌+◌, ◌-◌, ℕ, length, get_or, sym, ap, subst, ◌∙◌, arith}
use Rattle.ats_streams.specs.Stream.{DeclaredStream}
use Rattle.ats_network.specs.Edits.{no_stream}
use Rattle.ats_network.specs.Network.{DeclaredNetwork}
use Rattle.ats_explain.proofs.Numbered.{IsAhead, ahead_here, ahead_next, stream_read}
use Rattle.ats_explain.proofs.margin.listener_of.Goals.{After-legs}
use Rattle.ats_explain.proofs.margin.listener_of.Goals as goal

-- how many listeners the stream has
here : (c : After-legs) → c.legs.result
    ≡ 1 + length (get_or c.args.network.now.streams c.loop-left.stream no_stream).branches
here c =
    c.legs.ensures.value ∙ ap (λ (s : DeclaredStream). 1 + length s.branches)
    (stream_read c.streams-streams.result.now c.args.network.now.streams c.loop-left.stream
    c.index-streams-stream.result c.streams-streams.ensures.value c.index-streams-stream.is
    c.loop-left.invariant.within)

pub loop-left-preserved : goal.loop-left-preserved
loop-left-preserved c =
    let network : DeclaredNetwork = c.args.network.now in
    let many : ℕ = 1 + length (get_or network.streams c.loop-left.stream no_stream).branches in
    let same : c.legs-in-loop-left.result ≡ many =
    c.legs-in-loop-left.ensures.value ∙ ap (λ (s : DeclaredStream). 1 + length s.branches)
    (stream_read c.streams-streams.result.now network.streams c.loop-left.stream
    c.index-streams-stream-in-loop-left.result c.streams-streams.ensures.value c.index-streams-stream-in-loop-left.is
    c.loop-left.invariant.within) in
    subst (λ (n : ℕ). IsAhead network c.args.number (c.loop-left.stream + 1) (c.loop-left.left - n)) (sym same)
    (ahead_next network c.args.number c.loop-left.stream c.loop-left.left c.requires c.loop-left.invariant
    (omega (arith, c.loop-left-test.true, here (goal.at.loop-left-preserved c).After-legs)))

pub returns : goal.returns
returns c =
    ahead_here c.args.network.now c.args.number c.loop-left.stream c.loop-left.left c.loop-left.invariant
    (omega (arith, c.loop-left-test.false, here (goal.at.returns c).After-legs))
