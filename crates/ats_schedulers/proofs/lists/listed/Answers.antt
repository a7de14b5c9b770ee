use Rattle.std.proofs.Common.{◌≡◌, List, ap, length, rules, arith}
use Rattle.ats_group.specs.declared.member.Member.{Member}
use Rattle.ats_schedulers.proofs.Listing.{all_more, element, places_more, so_far_few}
use Rattle.ats_schedulers.proofs.lists.listed.Goals as goal

pub push_stream-requires : goal.push_stream-requires
push_stream-requires c = element c.args.topology.now c.args.streams.now c.loop-stream.stream-index c.stream-item.result
    c.requires.listable c.loop-stream-test.true c.stream-item.is

pub loop-stream-preserved : goal.loop-stream-preserved
loop-stream-preserved c =
    let count : c.len.result ≡ length c.loop-stream.members.items = search rules in
    record {
      all = all_more c.args.topology.now c.args.streams.now c.loop-stream.stream-index c.stream-item.result
          c.loop-stream.members.items _ c.loop-stream-test.true c.stream-item.is c.loop-stream.invariant.all
          c.in_ok-push_stream.ensures;
      places = places_more c.args.topology.now c.args.streams.now c.loop-stream.stream-index c.len.result
          c.loop-stream.members.items c.loop-stream.firsts.items _ c.loop-stream.invariant.all
          c.loop-stream.invariant.places count c.in_ok-push.ensures.items;
    }

pub overflow_cast-len : goal.overflow_cast-len
overflow_cast-len c =
    let count : c.len.result ≡ length c.loop-stream.members.items = search rules in
    let few = so_far_few c.args.topology.now c.args.streams.now c.loop-stream.stream-index c.stream-item.result
    c.requires.few c.loop-stream-test.true in
    let all = ap (λ (members : List Member). length members) c.loop-stream.invariant.all in
    omega (arith, count, few, all)
