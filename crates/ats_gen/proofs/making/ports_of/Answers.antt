use Rattle.std.proofs.Common.{◌≡◌, ◌∙◌, ℕ, ◌%◌, List, length, ap, arith}
use Rattle.std.proofs.lemmas.Nat.{mod_below}
use Rattle.ats_network.specs.Senders.{sender_at}
use Rattle.ats_gen.specs.Made.{stream_of}
use Rattle.ats_gen.proofs.Streams.{stream-ports}
use Rattle.ats_gen.proofs.Steps.{ports-next}
use Rattle.ats_gen.proofs.making.ports_of.Goals as goal

pub loop-frame-preserved : goal.loop-frame-preserved
loop-frame-preserved c =
    let k : ℕ = c.loop-frame.frame in
    let stream : k % length c.streams.result.now ≡ stream_of c.args.network.now k =
    ap (λ streams. k % length streams) c.streams.ensures.value in
    let more : length c.sender_ports.result.now
    ≡ length (sender_at c.args.network.now (stream_of c.args.network.now k)).ports =
    ap (λ (ports : List ℕ). length ports) c.sender_ports.ensures.value
    ∙ ap (λ (i : ℕ). length (sender_at c.args.network.now i).ports) stream in
    let few = stream-ports c.args.network.now c.streams.ensures.rules (stream_of c.args.network.now k)
    (mod_below k (length c.args.network.now.streams) c.requires.some) in
    record {
      ports = λ seed. ports-next c.args.network.now seed k c.loop-frame.ports (length c.sender_ports.result.now)
          (c.loop-frame.invariant.ports seed) more;
      bounded = omega (arith, c.loop-frame.invariant.bounded, more, few);
    }
