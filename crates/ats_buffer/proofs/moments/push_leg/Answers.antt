use Rattle.std.proofs.Common.{◌≡◌, ◌<◌, ◌≤◌, ◌++◌, ℕ, List, length, slice_index_or, subst, refl, sym, ap, ◌∙◌, arith}
use Rattle.ats_num.specs.Wire.{IsFrameSize}
use Rattle.ats_streams.specs.Branches.{leg_at}
use Rattle.ats_network.specs.Network.{senders_of}
use Rattle.ats_network.specs.Senders.{sender_at}
use Rattle.ats_trace.specs.Journey.{Travel, legs_at}
use Rattle.ats_trace.specs.HopRecord.{HopRecord}
use Rattle.ats_trace.specs.Stored.{travel_at}
use Rattle.ats_trace.specs.declared.journey.Release.{Release}
use Rattle.ats_buffer.specs.Moments.{moments_at, moments_of_leg}
use Rattle.ats_buffer.proofs.LegHops.{leg_few, leg_rest}
use Rattle.ats_buffer.proofs.Visits.{no_journey, no_hop, release_is, leg_of_frame, visit_of, read_of, told_more}
use Rattle.ats_buffer.proofs.Visits.{told_all}
use Rattle.ats_buffer.proofs.moments.push_leg.Goals as goal

pub sender_leg-path-requires-clause-sender : goal.sender_leg-path-requires-clause-sender
sender_leg-path-requires-clause-sender c =
    let is = release_is c.args.run.now c.journeys.result.now c.args.frame c.journeys.ensures c.requires.frame in
    let of = leg_of_frame c.args.network.now c.args.run.now c.args.frame c.args.leg c.requires.legal c.requires.frame
    c.requires.leg in
    subst (λ (r : Release). r.sender < length (senders_of c.args.network.now)) (sym is) of.journey.sender

pub sender_leg-path-requires-clause-leg : goal.sender_leg-path-requires-clause-leg
sender_leg-path-requires-clause-leg c =
    let is = release_is c.args.run.now c.journeys.result.now c.args.frame c.journeys.ensures c.requires.frame in
    let of = leg_of_frame c.args.network.now c.args.run.now c.args.frame c.args.leg c.requires.legal c.requires.frame
    c.requires.leg in
    subst (λ (r : Release). c.args.leg ≤ length (sender_at c.args.network.now r.sender).branches) (sym is) of.in_legs

pub wire_bits-bits-requires : goal.wire_bits-bits-requires
wire_bits-bits-requires c =
    let is = release_is c.args.run.now c.journeys.result.now c.args.frame c.journeys.ensures c.requires.frame in
    let of = leg_of_frame c.args.network.now c.args.run.now c.args.frame c.args.leg c.requires.legal c.requires.frame
    c.requires.leg in
    subst (λ (r : Release). IsFrameSize r.octets) (sym is) of.journey.octets

pub loop-hop-init : goal.loop-hop-init
loop-hop-init c =
    let of = leg_of_frame c.args.network.now c.args.run.now c.args.frame c.args.leg c.requires.legal c.requires.frame
    c.requires.leg in
    record {
      rest = leg_rest c.args.network.now (travel_at c.args.run.now c.args.frame) c.args.leg of.journey c.requires.leg;
      told = refl {a = c.args.moments.now.items
          ++ moments_of_leg c.args.network.now c.args.frame (travel_at c.args.run.now c.args.frame) c.args.leg};
    }

pub overflow_cast-hop : goal.overflow_cast-hop
overflow_cast-hop c =
    let of = leg_of_frame c.args.network.now c.args.run.now c.args.frame c.args.leg c.requires.legal c.requires.frame
    c.requires.leg in
    let visit = visit_of c.args.network.now c.args.run.now c.args.frame c.args.leg c.loop-hop.hop no_hop
    c.hops_of-visit-items.result.now c.hops_of-visit-items.ensures c.loop-hop-test.true c.loop-hop.invariant.rest in
    let few = leg_few c.args.network.now (travel_at c.args.run.now c.args.frame).release.sender c.args.leg
    c.sender_leg-path.ensures.rules of.journey.sender of.in_legs in
    omega (arith, few, visit.within)

pub class_of-class-requires-clause-sender : goal.class_of-class-requires-clause-sender
class_of-class-requires-clause-sender c =
    let is = release_is c.args.run.now c.journeys.result.now c.args.frame c.journeys.ensures c.requires.frame in
    let of = leg_of_frame c.args.network.now c.args.run.now c.args.frame c.args.leg c.requires.legal c.requires.frame
    c.requires.leg in
    subst (λ (r : Release). r.sender < length (senders_of c.args.network.now)) (sym is) of.journey.sender

pub class_of-class-requires-clause-leg : goal.class_of-class-requires-clause-leg
class_of-class-requires-clause-leg c =
    let is = release_is c.args.run.now c.journeys.result.now c.args.frame c.journeys.ensures c.requires.frame in
    let of = leg_of_frame c.args.network.now c.args.run.now c.args.frame c.args.leg c.requires.legal c.requires.frame
    c.requires.leg in
    subst (λ (r : Release). c.args.leg ≤ length (sender_at c.args.network.now r.sender).branches) (sym is) of.in_legs

pub class_of-class-requires-clause-hop : goal.class_of-class-requires-clause-hop
class_of-class-requires-clause-hop c =
    let is = release_is c.args.run.now c.journeys.result.now c.args.frame c.journeys.ensures c.requires.frame in
    let of = leg_of_frame c.args.network.now c.args.run.now c.args.frame c.args.leg c.requires.legal c.requires.frame
    c.requires.leg in
    let visit = visit_of c.args.network.now c.args.run.now c.args.frame c.args.leg c.loop-hop.hop no_hop
    c.hops_of-visit-items.result.now c.hops_of-visit-items.ensures c.loop-hop-test.true c.loop-hop.invariant.rest in
    subst (λ (r : Release). c.loop-hop.hop < length (leg_at (legs_at c.args.network.now r.sender) c.args.leg)) (sym is)
    visit.within

pub bounds-path-hop : goal.bounds-path-hop
bounds-path-hop c =
    let is = release_is c.args.run.now c.journeys.result.now c.args.frame c.journeys.ensures c.requires.frame in
    let of = leg_of_frame c.args.network.now c.args.run.now c.args.frame c.args.leg c.requires.legal c.requires.frame
    c.requires.leg in
    let visit = visit_of c.args.network.now c.args.run.now c.args.frame c.args.leg c.loop-hop.hop no_hop
    c.hops_of-visit-items.result.now c.hops_of-visit-items.ensures c.loop-hop-test.true c.loop-hop.invariant.rest in
    let path : c.sender_leg-path.result.now
    ≡ leg_at (legs_at c.args.network.now (travel_at c.args.run.now c.args.frame).release.sender) c.args.leg =
    c.sender_leg-path.ensures.value
    ∙ ap (λ (r : Release). leg_at (legs_at c.args.network.now r.sender) c.args.leg) is in
    omega (arith, visit.within, ap (λ (l : List ℕ). length l) path)

pub loop-hop-preserved : goal.loop-hop-preserved
loop-hop-preserved c =
    let hop : HopRecord = c.visit-item.result in
    let is = release_is c.args.run.now c.journeys.result.now c.args.frame c.journeys.ensures c.requires.frame in
    let visit = visit_of c.args.network.now c.args.run.now c.args.frame c.args.leg c.loop-hop.hop hop
    c.hops_of-visit-items.result.now c.hops_of-visit-items.ensures c.loop-hop-test.true c.loop-hop.invariant.rest in
    let network = c.args.network.now in
    let j : Travel = travel_at c.args.run.now c.args.frame in
    let k : ℕ = c.loop-hop.hop in
    let read = read_of network j c.args.leg k hop
    (slice_index_or c.journeys.result.now c.args.frame no_journey).release c.sender_leg-path.result.now
    c.class_of-class.result c.wire_bits-bits.result c.hops_of-visit-items.result.now is c.sender_leg-path.ensures.value
    c.class_of-class.ensures c.wire_bits-bits.ensures.bits c.hops_of-visit-items.ensures in
    record {
      rest = visit.rest;
      told = told_more network c.args.frame j c.args.leg k hop (slice_index_or c.sender_leg-path.result.now k 0)
          c.class_of-class.result c.wire_bits-bits.result (slice_index_or c.hops_of-visit-items.result.now k hop)
          c.loop-hop.moments.items c.push_visit.new.moments.items _ visit read
          (c.in_ok-push_visit.ensures
          ∙ ap (λ (h : HopRecord). c.loop-hop.moments.items
          ++ moments_at (slice_index_or c.sender_leg-path.result.now k 0) c.class_of-class.result
          c.wire_bits-bits.result h) c.visit-item.is)
          c.loop-hop.invariant.told;
    }

pub returns : goal.returns
returns c =
    told_all c.args.network.now c.args.frame (travel_at c.args.run.now c.args.frame) c.args.leg c.loop-hop.hop
    c.hops_of-visit-items.result.now c.loop-hop.moments.items _ c.hops_of-visit-items.ensures c.loop-hop-test.false
    c.loop-hop.invariant.told
