use Rattle.std.proofs.Common.{◌≡◌, ◌+◌, ◌<◌, List, length, get_or, ap, ◌∙◌, arith}
use Rattle.ats_streams.specs.Stream.{DeclaredStream}
use Rattle.ats_network.specs.Edits.{no_stream}
use Rattle.ats_network.specs.Network.{DeclaredNetwork}
use Rattle.ats_explain.proofs.Numbered.{before_more}
use Rattle.ats_explain_text.specs.Text.{stream_text}
use Rattle.ats_explain_text.proofs.Lines.{next_lines, stream_is}
use Rattle.ats_explain_text.proofs.printing.write_streams.Goals.{In-loop-stream}
use Rattle.ats_explain_text.proofs.printing.write_streams.Goals as goal

-- there is a stream with this number
there : (c : In-loop-stream) → c.loop-stream.stream < length c.args.explanation.now.streams
there c =
    let all : length c.streams-streams.result.now ≡ length c.args.explanation.now.streams =
    ap (λ (streams : List DeclaredStream). length streams) c.streams-streams.ensures.value
    ∙ ap (λ (n : DeclaredNetwork). length n.streams) c.network.ensures.value in
    omega (arith, all, c.loop-stream-test.true)

pub overflow_add-before : goal.overflow_add-before
overflow_add-before c =
    let within = there (goal.at.overflow_add-before c).In-loop-stream in
    omega (arith, within, c.network.ensures.rules.few_streams, c.loop-stream.invariant.few, c.legs.type_inv)

pub loop-stream-preserved : goal.loop-stream-preserved
loop-stream-preserved c =
    let network : DeclaredNetwork = c.args.explanation.now in
    let n = c.loop-stream.stream in
    let within = there (goal.at.loop-stream-preserved c).In-loop-stream in
    let item : c.index-streams-stream.result ≡ get_or network.streams n no_stream =
    stream_is network c.network.result.now c.streams-streams.result.now n c.index-streams-stream.result
    c.network.ensures.value c.streams-streams.ensures.value c.index-streams-stream.is within in
    let legs : c.legs.result ≡ 1 + length (get_or network.streams n no_stream).branches =
    c.legs.ensures.value ∙ ap (λ (s : DeclaredStream). 1 + length s.branches) item in
    record {
      lines = next_lines (stream_text network) network.streams n no_stream c.args.out.now.items
          c.loop-stream.out.items c.write_stream.new.out.items within c.loop-stream.invariant.lines
          c.in_ok-write_stream.ensures;
      before_is = omega (arith, c.loop-stream.invariant.before_is, legs, before_more network n within);
      few = omega (arith, c.loop-stream.invariant.few, c.legs.type_inv);
    }
