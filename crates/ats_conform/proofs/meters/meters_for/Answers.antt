use Rattle.std.proofs.Common.{◌≡◌, ℕ, ◌<◌, length, ap, ◌∙◌, arith}
use Rattle.std.proofs.lemmas.List.{length_push}
use Rattle.ats_conform.specs.Steps.{meter_after}
use Rattle.ats_conform.proofs.MetersMade.{meter-first, meters-more}
use Rattle.ats_conform.proofs.meters.meters_for.Goals as goal

pub loop-stream-preserved : goal.loop-stream-preserved
loop-stream-preserved c =
    let n : ℕ = c.loop-stream.stream-index in
    let pushed = c.in_ok-push.ensures.items in
    let size = ap length c.streams-streams.ensures.value in
    let below : n < length c.args.network.now.streams = omega (arith, size, c.loop-stream-test.true) in
    let stream = rw c.streams-streams.ensures.value at c.stream-item.is in
    record {
      count = omega (
        arith,
        ap length pushed,
        length_push c.loop-stream.meters.items c.new.result,
        c.loop-stream.invariant.count,
      );
      each = λ releases. (
          let meter : c.new.result ≡ meter_after c.args.network.now releases 0 n =
          c.new.ensures ∙ meter-first c.args.network.now releases n c.stream-item.result
          c.rate.result c.burst_bits.result below stream c.rate.ensures.value c.burst_bits.ensures.value in
          meters-more c.args.network.now releases n c.loop-stream.meters.items c.push.new.self.items c.new.result
          pushed c.loop-stream.invariant.count (c.loop-stream.invariant.each releases) meter);
    }

pub returns : goal.returns
returns c = λ releases. record {
  count = omega (
    arith,
    ap length c.streams-streams.ensures.value,
    c.loop-stream.invariant.count,
    c.loop-stream.auto.stream-index-end,
    c.loop-stream-test.false,
  );
  each = λ i d below. c.loop-stream.invariant.each releases i d (omega (arith, c.loop-stream.invariant.count));
}
