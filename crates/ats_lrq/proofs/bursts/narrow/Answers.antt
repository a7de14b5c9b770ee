use Rattle.std.proofs.Common.{◌<◌, List, length, ap, ◌∙◌, arith}
use Rattle.std.specs.Prelude.{slice_index_or}
use Rattle.std.proofs.lemmas.List.{get_or_default}
use Rattle.ats_num.specs.Wire.{bits_of}
use Rattle.ats_streams.specs.Stream.{DeclaredStream}
use Rattle.ats_network.specs.Edits.{no_stream}
use Rattle.ats_lrq.proofs.Narrowing.{narrowed-rates, narrowed-step, count-step}
use Rattle.ats_lrq.proofs.bursts.narrow.Goals as goal

pub loop-stream-preserved : goal.loop-stream-preserved
loop-stream-preserved c =
    let network = c.args.network.now in
    let now = c.loop-stream.network in
    let n = c.loop-stream.stream in
    let it = c.index-streams-stream.result in
    let size = ap (λ (xs : List DeclaredStream). length xs) c.streams.ensures.value in
    record {
      so_far = narrowed-step network now c.set_burst.new.self n c.wire_bits.result it
          c.loop-stream.invariant.so_far c.loop-stream.invariant.count (omega arith)
          (c.index-streams-stream.is
          ∙ ap (λ (xs : List DeclaredStream). slice_index_or xs n it) c.streams-in-loop-stream.ensures.value)
          (c.wire_bits.ensures.bits ∙ ap bits_of c.max_octets-max_octets.ensures.value) c.set_burst.ensures;
      count = count-step network now c.set_burst.new.self n c.wire_bits.result c.loop-stream.invariant.count
          c.set_burst.ensures;
    }

-- its rates and bursts stay within their limits
pub set_burst-requires-clause-rates : goal.set_burst-requires-clause-rates
set_burst-requires-clause-rates c =
    let network = c.loop-stream.network in
    let n = c.loop-stream.stream in
    let it = c.index-streams-stream.result in
    let size = ap (λ (xs : List DeclaredStream). length xs) c.streams.ensures.value in
    let count = c.loop-stream.invariant.count in
    let within : n < length network.streams = omega arith in
    let same = c.index-streams-stream.is
    ∙ ap (λ (xs : List DeclaredStream). slice_index_or xs n it) c.streams-in-loop-stream.ensures.value
    ∙ get_or_default network.streams n it no_stream within in
    narrowed-rates network n c.wire_bits.result c.streams-in-loop-stream.ensures.rules within
    (c.wire_bits.ensures.bits ∙ ap bits_of c.max_octets-max_octets.ensures.value
    ∙ ap (λ (s : DeclaredStream). bits_of s.max_octets) same)
