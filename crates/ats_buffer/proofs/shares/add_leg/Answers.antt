use Rattle.std.proofs.Common.{ℕ, List, length, slice_index_or, ap, arith}
use Rattle.std.proofs.lemmas.Bool.{eq-eqb}
use Rattle.ats_network.specs.Class.{class_at}
use Rattle.ats_network.specs.Sender.{stream_sender}
use Rattle.ats_network.specs.Senders.{sender_at}
use Rattle.ats_route_law.specs.Laws.{in_front_of}
use Rattle.ats_buffer.proofs.Found.{stay-most, way_behind-most, shares-most, share-most}
use Rattle.ats_buffer.proofs.Hops.{hop_is, legs_before, leg_added, same_stream, share_is, stream_exists, sum_is}
use Rattle.ats_buffer.proofs.Hops.{added_hop, before_next, counted_there, seen_there, way_next, way_there}
use Rattle.ats_buffer.proofs.LegHops.{leg_few}
use Rattle.ats_buffer.proofs.Rated.{rated_there}
use Rattle.ats_buffer.proofs.ShareLemmas.{stream_at}
use Rattle.ats_buffer.proofs.shares.add_leg.Goals as goal

pub sender_leg-port-items-requires-clause-sender : goal.sender_leg-port-items-requires-clause-sender
sender_leg-port-items-requires-clause-sender c =
    stream_exists c.args.network.now c.args.stream c.requires.stream

pub loop-hop-init : goal.loop-hop-init
loop-hop-init c = record {
  added = legs_before c.args.network.now c.args.rows.now.rows c.args.stream c.args.leg c.args.sums.now
      c.streams.ensures.rules c.requires.stream c.requires.leg c.requires.before;
  before = c.way_to_leg-front.ensures.port;
  way = c.way_to_leg-front.ensures.way;
}

pub overflow_cast-hop : goal.overflow_cast-hop
overflow_cast-hop c =
    let few = leg_few c.args.network.now c.args.stream c.args.leg c.streams.ensures.rules
    (stream_exists c.args.network.now c.args.stream c.requires.stream) c.requires.leg in
    omega (arith, few, c.loop-hop-test.true, ap (λ (l : List ℕ). length l) c.sender_leg-port-items.ensures.value)

pub class_of-class-requires-clause-sender : goal.class_of-class-requires-clause-sender
class_of-class-requires-clause-sender c =
    stream_exists c.args.network.now c.args.stream c.requires.stream

pub class_of-class-requires-clause-hop : goal.class_of-class-requires-clause-hop
class_of-class-requires-clause-hop c =
    omega (arith, c.loop-hop-test.true, ap (λ (l : List ℕ). length l) c.sender_leg-port-items.ensures.value)

pub committed_at-seen-requires : goal.committed_at-seen-requires
committed_at-seen-requires c =
    let network = c.args.network.now in
    let leg : ℕ = c.args.leg in
    let hop : ℕ = c.loop-hop.hop in
    let port : ℕ = slice_index_or c.sender_leg-port-items.result.now hop 0 in
    let class : ℕ = c.class_of-class.result in
    let at = hop_is c.args.network.now c.args.stream c.args.leg c.loop-hop.hop c.sender_leg-port-items.result.now
    c.class_of-class.result c.streams.ensures.rules c.requires.stream c.requires.leg
    c.sender_leg-port-items.ensures.value c.loop-hop-test.true c.class_of-class.ensures in
    rated_there network c.args.stream leg hop port class c.topology.result.now c.index-streams-stream.result
    c.unwrap_or.result c.streams.ensures.rules c.requires.stream at c.topology.ensures.value
    (same_stream network c.streams.result.now c.args.stream c.index-streams-stream.result c.streams.ensures.value
    c.requires.stream c.index-streams-stream.is)
    (counted_there network c.args.stream leg hop port class c.loop-hop.before c.unwrap_or.result
    c.streams.ensures.rules c.requires.stream c.requires.leg at c.loop-hop.invariant.before c.unwrap_or.ensures)

pub stay-requires-clause-port : goal.stay-requires-clause-port
stay-requires-clause-port c =
    let at = hop_is c.args.network.now c.args.stream c.args.leg c.loop-hop.hop c.sender_leg-port-items.result.now
    c.class_of-class.result c.streams.ensures.rules c.requires.stream c.requires.leg
    c.sender_leg-port-items.ensures.value c.loop-hop-test.true c.class_of-class.ensures in
    at.inside

pub stay-requires-clause-class : goal.stay-requires-clause-class
stay-requires-clause-class c =
    let at = hop_is c.args.network.now c.args.stream c.args.leg c.loop-hop.hop c.sender_leg-port-items.result.now
    c.class_of-class.result c.streams.ensures.rules c.requires.stream c.requires.leg
    c.sender_leg-port-items.ensures.value c.loop-hop-test.true c.class_of-class.ensures in
    at.most

pub overflow_add-window : goal.overflow_add-window
overflow_add-window c =
    let stay = stay-most c.args.network.now c.args.rows.now.rows c.streams.ensures.rules c.requires.holds
    (slice_index_or c.sender_leg-port-items.result.now c.loop-hop.hop 0) c.class_of-class.result in
    let way = way_behind-most c.args.network.now c.args.rows.now.rows c.streams.ensures.rules c.requires.holds
    (sender_at c.args.network.now c.args.stream)
    (in_front_of (sender_at c.args.network.now c.args.stream) c.args.leg c.loop-hop.hop) in
    omega (arith, stay, c.stay.ensures, way, c.loop-hop.invariant.way)

pub get-requires-clause-port : goal.get-requires-clause-port
get-requires-clause-port c =
    let at = hop_is c.args.network.now c.args.stream c.args.leg c.loop-hop.hop c.sender_leg-port-items.result.now
    c.class_of-class.result c.streams.ensures.rules c.requires.stream c.requires.leg
    c.sender_leg-port-items.ensures.value c.loop-hop-test.true c.class_of-class.ensures in
    omega (arith, at.inside, c.loop-hop.invariant.added.ports)

pub get-requires-clause-class : goal.get-requires-clause-class
get-requires-clause-class c =
    let at = hop_is c.args.network.now c.args.stream c.args.leg c.loop-hop.hop c.sender_leg-port-items.result.now
    c.class_of-class.result c.streams.ensures.rules c.requires.stream c.requires.leg
    c.sender_leg-port-items.ensures.value c.loop-hop-test.true c.class_of-class.ensures in
    at.most

pub bits_within-requires : goal.bits_within-requires
bits_within-requires c =
    let stay = stay-most c.args.network.now c.args.rows.now.rows c.streams.ensures.rules c.requires.holds
    (slice_index_or c.sender_leg-port-items.result.now c.loop-hop.hop 0) c.class_of-class.result in
    let way = way_behind-most c.args.network.now c.args.rows.now.rows c.streams.ensures.rules c.requires.holds
    (sender_at c.args.network.now c.args.stream)
    (in_front_of (sender_at c.args.network.now c.args.stream) c.args.leg c.loop-hop.hop) in
    omega (arith, stay, c.stay.ensures, way, c.loop-hop.invariant.way)

pub overflow_add-sum : goal.overflow_add-sum
overflow_add-sum c =
    let network = c.args.network.now in
    let rows = c.args.rows.now.rows in
    let leg : ℕ = c.args.leg in
    let hop : ℕ = c.loop-hop.hop in
    let port : ℕ = slice_index_or c.sender_leg-port-items.result.now hop 0 in
    let class : ℕ = c.class_of-class.result in
    let at = hop_is c.args.network.now c.args.stream c.args.leg c.loop-hop.hop c.sender_leg-port-items.result.now
    c.class_of-class.result c.streams.ensures.rules c.requires.stream c.requires.leg
    c.sender_leg-port-items.ensures.value c.loop-hop-test.true c.class_of-class.ensures in
    let stream = same_stream network c.streams.result.now c.args.stream c.index-streams-stream.result
    c.streams.ensures.value c.requires.stream c.index-streams-stream.is in
    let sum = sum_is network rows c.args.stream leg hop port class c.loop-hop.sums c.get.result c.streams.ensures.rules
    c.requires.stream at c.loop-hop.invariant.added c.get.ensures in
    let way = way_there network rows c.args.stream leg hop port class c.loop-hop.way c.streams.ensures.rules
    c.requires.stream c.requires.leg at c.loop-hop.invariant.way in
    let counted = counted_there network c.args.stream leg hop port class c.loop-hop.before c.unwrap_or.result
    c.streams.ensures.rules c.requires.stream c.requires.leg at c.loop-hop.invariant.before c.unwrap_or.ensures in
    let seen = seen_there network c.args.stream port c.topology.result.now c.index-streams-stream.result
    c.unwrap_or.result c.committed_at-seen.result c.topology.ensures.value stream counted c.committed_at-seen.ensures in
    let share = share_is network rows c.args.stream port class c.committed_at-seen.result c.stay.result
    c.loop-hop.way c.bits_within.result seen c.stay.ensures way c.bits_within.ensures in
    omega (
      arith,
      sum,
      share,
      shares-most network rows c.streams.ensures.rules c.requires.holds port class c.args.stream at.least,
      share-most network rows c.streams.ensures.rules c.requires.holds port class c.args.stream
          c.requires.stream at.least
          (eq-eqb (class_at (stream_sender (stream_at network c.args.stream)) port) class at.ranked),
    )

pub set-requires-clause-port : goal.set-requires-clause-port
set-requires-clause-port c =
    let at = hop_is c.args.network.now c.args.stream c.args.leg c.loop-hop.hop c.sender_leg-port-items.result.now
    c.class_of-class.result c.streams.ensures.rules c.requires.stream c.requires.leg
    c.sender_leg-port-items.ensures.value c.loop-hop-test.true c.class_of-class.ensures in
    omega (arith, at.inside, c.loop-hop.invariant.added.ports)

pub set-requires-clause-class : goal.set-requires-clause-class
set-requires-clause-class c =
    let at = hop_is c.args.network.now c.args.stream c.args.leg c.loop-hop.hop c.sender_leg-port-items.result.now
    c.class_of-class.result c.streams.ensures.rules c.requires.stream c.requires.leg
    c.sender_leg-port-items.ensures.value c.loop-hop-test.true c.class_of-class.ensures in
    at.most

pub way_over-way-requires-clause-port : goal.way_over-way-requires-clause-port
way_over-way-requires-clause-port c =
    let at = hop_is c.args.network.now c.args.stream c.args.leg c.loop-hop.hop c.sender_leg-port-items.result.now
    c.class_of-class.result c.streams.ensures.rules c.requires.stream c.requires.leg
    c.sender_leg-port-items.ensures.value c.loop-hop-test.true c.class_of-class.ensures in
    at.inside

pub way_over-way-requires-clause-class : goal.way_over-way-requires-clause-class
way_over-way-requires-clause-class c =
    let at = hop_is c.args.network.now c.args.stream c.args.leg c.loop-hop.hop c.sender_leg-port-items.result.now
    c.class_of-class.result c.streams.ensures.rules c.requires.stream c.requires.leg
    c.sender_leg-port-items.ensures.value c.loop-hop-test.true c.class_of-class.ensures in
    at.most

pub loop-hop-preserved : goal.loop-hop-preserved
loop-hop-preserved c =
    let network = c.args.network.now in
    let rows = c.args.rows.now.rows in
    let leg : ℕ = c.args.leg in
    let hop : ℕ = c.loop-hop.hop in
    let port : ℕ = slice_index_or c.sender_leg-port-items.result.now hop 0 in
    let class : ℕ = c.class_of-class.result in
    let at = hop_is c.args.network.now c.args.stream c.args.leg c.loop-hop.hop c.sender_leg-port-items.result.now
    c.class_of-class.result c.streams.ensures.rules c.requires.stream c.requires.leg
    c.sender_leg-port-items.ensures.value c.loop-hop-test.true c.class_of-class.ensures in
    let stream = same_stream network c.streams.result.now c.args.stream c.index-streams-stream.result
    c.streams.ensures.value c.requires.stream c.index-streams-stream.is in
    let sum = sum_is network rows c.args.stream leg hop port class c.loop-hop.sums c.get.result c.streams.ensures.rules
    c.requires.stream at c.loop-hop.invariant.added c.get.ensures in
    let way = way_there network rows c.args.stream leg hop port class c.loop-hop.way c.streams.ensures.rules
    c.requires.stream c.requires.leg at c.loop-hop.invariant.way in
    let counted = counted_there network c.args.stream leg hop port class c.loop-hop.before c.unwrap_or.result
    c.streams.ensures.rules c.requires.stream c.requires.leg at c.loop-hop.invariant.before c.unwrap_or.ensures in
    let seen = seen_there network c.args.stream port c.topology.result.now c.index-streams-stream.result
    c.unwrap_or.result c.committed_at-seen.result c.topology.ensures.value stream counted c.committed_at-seen.ensures in
    let share = share_is network rows c.args.stream port class c.committed_at-seen.result c.stay.result
    c.loop-hop.way c.bits_within.result seen c.stay.ensures way c.bits_within.ensures in
    record {
      added = added_hop network rows c.args.stream leg hop port class c.loop-hop.sums c.set.new.self c.get.result
          c.bits_within.result c.streams.ensures.rules c.requires.stream at c.loop-hop.invariant.added sum share
          c.set.ensures;
      before = before_next network c.args.stream leg hop port class at;
      way = way_next network rows c.args.stream leg hop port class c.way_over-way.result c.requires.stream at
          c.way_over-way.ensures;
    }

pub returns : goal.returns
returns c =
    leg_added c.args.network.now c.args.rows.now.rows c.args.stream c.args.leg c.loop-hop.hop
    c.sender_leg-port-items.result.now c.loop-hop.sums c.streams.ensures.rules c.requires.stream c.requires.leg
    c.sender_leg-port-items.ensures.value c.loop-hop-test.false
    (omega (arith, c.loop-hop.auto.hop-end, ap (λ (l : List ℕ). length l) c.sender_leg-port-items.ensures.value))
    c.loop-hop.invariant.added
