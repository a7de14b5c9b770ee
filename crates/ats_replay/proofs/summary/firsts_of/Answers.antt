use Rattle.std.proofs.Common.{◌∙◌, ◌+◌, ℕ, ap, arith, map}
use Rattle.std.specs.List.{range_with_len}
use Rattle.ats_replay.specs.Summary.{first_of}
use Rattle.ats_replay.proofs.Places.{firsts_more, first_after}
use Rattle.ats_replay.proofs.summary.firsts_of.Goals as goal

pub loop-sender-preserved : goal.loop-sender-preserved
loop-sender-preserved c = record {
  so_far = firsts_more c.args.network.now c.loop-sender.sender c.loop-sender.first c.loop-sender.firsts.items
      c.push.new.self.items c.loop-sender.invariant.so_far c.loop-sender.invariant.next c.in_ok-push.ensures.items;
  next = first_after c.args.network.now c.loop-sender.sender c.loop-sender.first c.sender_legs.result
      (omega (arith, c.loop-sender-test.true, c.senders-senders.ensures.value)) c.loop-sender.invariant.next
      c.sender_legs.ensures.value;
  few = omega (arith, c.loop-sender.invariant.few, c.sender_legs.type_inv);
}

pub returns : goal.returns
returns c =
    firsts_more c.args.network.now c.loop-sender.sender c.loop-sender.first c.loop-sender.firsts.items
    c.push-2.new.self.items c.loop-sender.invariant.so_far c.loop-sender.invariant.next c.in_ok-push-2.ensures.items
    ∙ ap (λ (n : ℕ). map (first_of c.args.network.now) (range_with_len 0 (n + 1)))
    (omega (arith, c.loop-sender-test.false, c.senders-senders.ensures.value))
