use Rattle.std.proofs.Common.{◌≡◌, ◌∙◌, ℕ, ◌+◌, ◌<◌, List, length, get_or, ap, arith}
use Rattle.ats_network.specs.Sender.{stream_sender}
use Rattle.ats_streams.specs.Branches.{leg_at, legs_of}
use Rattle.ats_streams.specs.Stream.{IsStream}
use Rattle.ats_streams.proofs.BranchLemmas.{some_port}
use Rattle.ats_schedulers.specs.Schedulers.{member_behind}
use Rattle.ats_schedulers.proofs.LegPlaces.{leg_is}
use Rattle.ats_schedulers.proofs.Listing.{port_more}
use Rattle.ats_schedulers.proofs.lists.push_leg.Goals as goal

pub overflow_sub-hop-end : goal.overflow_sub-hop-end
overflow_sub-hop-end c =
    let rules : IsStream c.args.stream.now = c.leg.ensures.rules in
    let leg = leg_is c.args.stream.now.ports c.args.stream.now.branches c.args.leg rules.branches
    (some_port c.args.stream.now rules) c.requires.leg in
    omega (arith, leg.some, ap (λ (l : List ℕ). length l) c.leg.ensures.value)

pub member-requires-clause-place : goal.member-requires-clause-place
member-requires-clause-place c =
    let rules : IsStream c.args.stream.now = c.leg.ensures.rules in
    let leg = leg_is c.args.stream.now.ports c.args.stream.now.branches c.args.leg rules.branches
    (some_port c.args.stream.now rules) c.requires.leg in
    omega (
      arith,
      leg.within,
      ap (λ (l : List ℕ). length l) c.leg.ensures.value,
      c.first_place-first.ensures,
      c.loop-hop-test.true,
    )

pub loop-hop-preserved : goal.loop-hop-preserved
loop-hop-preserved c =
    let stream = c.args.stream.now in
    let rules : IsStream c.args.stream.now = c.leg.ensures.rules in
    let path : List ℕ = leg_at (legs_of c.args.stream.now.ports c.args.stream.now.branches) c.args.leg in
    let leg = leg_is c.args.stream.now.ports c.args.stream.now.branches c.args.leg rules.branches
    (some_port c.args.stream.now rules) c.requires.leg in
    let long : length c.leg.result.now ≡ length path = ap (λ (l : List ℕ). length l) c.leg.ensures.value in
    let below : c.loop-hop.hop < length path = omega (arith, long, c.loop-hop-test.true) in
    port_more c.args.topology.now (stream_sender c.args.stream.now) path c.loop-hop.hop c.args.members.now.items
    c.loop-hop.members.items _ c.member.result below c.loop-hop.invariant c.in_ok-push.ensures.items
    (c.member.ensures
    ∙ ap (λ (n : ℕ). member_behind c.args.topology.now (stream_sender c.args.stream.now)
    (get_or c.args.stream.now.ports (n + c.loop-hop.hop) 0)) c.first_place-first.ensures
    ∙ ap (member_behind c.args.topology.now (stream_sender c.args.stream.now)) (leg.port c.loop-hop.hop below))
