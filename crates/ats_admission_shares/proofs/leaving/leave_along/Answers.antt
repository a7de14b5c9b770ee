use Rattle.std.proofs.Common.{◌<◌, ◌≤◌, ℕ, List, Option, Some, length, get_or, sym, ap, subst, arith}
use Rattle.std.proofs.lemmas.List.{take_all}
use Rattle.ats_topology.specs.Topology.{DeclaredTopology}
use Rattle.ats_streams.specs.Stream.{DeclaredStream}
use Rattle.ats_network.specs.Rates.{IsRated}
use Rattle.ats_network.specs.Network.{DeclaredNetwork, senders_of}
use Rattle.ats_network.specs.Sender.{stream_sender}
use Rattle.ats_certificate.specs.PortSums.{senders_at}
use Rattle.ats_tally.specs.SenderAtPort.{port_sender}
use Rattle.ats_tally.specs.Shares.{share_of}
use Rattle.ats_tally.specs.declared.share.Share.{Share}
use Rattle.ats_tally.proofs.Changed.{ChangesAlong}
use Rattle.ats_tally.proofs.Entries.{entry_changed}
use Rattle.ats_admission_shares.proofs.Entered.{shares_left}
use Rattle.ats_admission_shares.proofs.Left.{left_keeps, left_rates, leaving_class, leaving_entry, leaving_inside}
use Rattle.ats_admission_shares.proofs.Left.{leaving_share}
use Rattle.ats_admission_shares.proofs.leaving.leave_along.Goals as goal

-- the shares without the stream
abbrev without : DeclaredNetwork → ℕ → ℕ → Option Share
without network port class = Some (share_of class (senders_at network.topology port (senders_of network)))

pub of_stream-seen-requires-clause-apart : goal.of_stream-seen-requires-clause-apart
of_stream-seen-requires-clause-apart c =
    (left_keeps c.args.network.now c.args.stream.now c.args.shares.now c.requires.before).apart

pub of_stream-seen-requires-clause-rated : goal.of_stream-seen-requires-clause-rated
of_stream-seen-requires-clause-rated c =
    let stream : DeclaredStream = c.args.stream.now in
    let within : c.loop-hop.hop < length stream.ports =
    omega (arith, c.loop-hop-test.true, ap length c.ports-port-items.ensures.value) in
    subst (λ (t : DeclaredTopology). IsRated t (stream_sender stream) (get_or stream.ports c.loop-hop.hop 0))
    (sym c.topology.ensures.value)
    (left_rates c.args.network.now stream c.args.shares.now c.requires.before c.loop-hop.hop 0 within)

pub get-share-requires-clause-port : goal.get-share-requires-clause-port
get-share-requires-clause-port c =
    let entry = leaving_entry c.args.network.now c.args.stream.now c.args.shares.now c.requires.before
    c.topology.result.now c.ports-port-items.result.now c.loop-hop.hop (port_sender c.of_stream-seen.result)
    c.topology.ensures.value c.ports-port-items.ensures.value c.loop-hop-test.true c.of_stream-seen.ensures.seen in
    omega (arith, entry.inside, c.loop-hop.invariant.count, c.requires.before.counted.count)

pub get-share-requires-clause-class : goal.get-share-requires-clause-class
get-share-requires-clause-class c =
    (leaving_entry c.args.network.now c.args.stream.now c.args.shares.now c.requires.before
    c.topology.result.now c.ports-port-items.result.now c.loop-hop.hop (port_sender c.of_stream-seen.result)
    c.topology.ensures.value c.ports-port-items.ensures.value c.loop-hop-test.true c.of_stream-seen.ensures.seen).most

pub share_left-left-requires-clause-port : goal.share_left-left-requires-clause-port
share_left-left-requires-clause-port c =
    let entry = leaving_entry c.args.network.now c.args.stream.now c.args.shares.now c.requires.before
    c.topology.result.now c.ports-port-items.result.now c.loop-hop.hop (port_sender c.of_stream-seen.result)
    c.topology.ensures.value c.ports-port-items.ensures.value c.loop-hop-test.true c.of_stream-seen.ensures.seen in
    leaving_inside c.args.network.now c.args.stream.now c.args.shares.now c.requires.before
    (get_or c.ports-port-items.result.now c.loop-hop.hop 0) c.loop-hop.hop (port_sender c.of_stream-seen.result) entry

pub share_left-left-requires-clause-class : goal.share_left-left-requires-clause-class
share_left-left-requires-clause-class c =
    let entry = leaving_entry c.args.network.now c.args.stream.now c.args.shares.now c.requires.before
    c.topology.result.now c.ports-port-items.result.now c.loop-hop.hop (port_sender c.of_stream-seen.result)
    c.topology.ensures.value c.ports-port-items.ensures.value c.loop-hop-test.true c.of_stream-seen.ensures.seen in
    leaving_class c.args.network.now c.args.stream.now c.args.shares.now c.requires.before
    (get_or c.ports-port-items.result.now c.loop-hop.hop 0) c.loop-hop.hop (port_sender c.of_stream-seen.result)
    c.ports-port-items.ensures.rules entry

pub share_left-left-requires-clause-share : goal.share_left-left-requires-clause-share
share_left-left-requires-clause-share c =
    let entry = leaving_entry c.args.network.now c.args.stream.now c.args.shares.now c.requires.before
    c.topology.result.now c.ports-port-items.result.now c.loop-hop.hop (port_sender c.of_stream-seen.result)
    c.topology.ensures.value c.ports-port-items.ensures.value c.loop-hop-test.true c.of_stream-seen.ensures.seen in
    leaving_share c.args.network.now c.args.stream.now c.args.shares.now c.requires.before
    (without c.args.network.now) c.loop-hop.shares (get_or c.ports-port-items.result.now c.loop-hop.hop 0)
    c.loop-hop.hop (port_sender c.of_stream-seen.result) c.get-share.result entry c.loop-hop.invariant
    c.get-share.ensures

pub set-requires-clause-port : goal.set-requires-clause-port
set-requires-clause-port c =
    let entry = leaving_entry c.args.network.now c.args.stream.now c.args.shares.now c.requires.before
    c.topology.result.now c.ports-port-items.result.now c.loop-hop.hop (port_sender c.of_stream-seen.result)
    c.topology.ensures.value c.ports-port-items.ensures.value c.loop-hop-test.true c.of_stream-seen.ensures.seen in
    omega (arith, entry.inside, c.loop-hop.invariant.count, c.requires.before.counted.count)

pub set-requires-clause-class : goal.set-requires-clause-class
set-requires-clause-class c =
    (leaving_entry c.args.network.now c.args.stream.now c.args.shares.now c.requires.before
    c.topology.result.now c.ports-port-items.result.now c.loop-hop.hop (port_sender c.of_stream-seen.result)
    c.topology.ensures.value c.ports-port-items.ensures.value c.loop-hop-test.true c.of_stream-seen.ensures.seen).most

pub loop-hop-preserved : goal.loop-hop-preserved
loop-hop-preserved c =
    let entry = leaving_entry c.args.network.now c.args.stream.now c.args.shares.now c.requires.before
    c.topology.result.now c.ports-port-items.result.now c.loop-hop.hop (port_sender c.of_stream-seen.result)
    c.topology.ensures.value c.ports-port-items.ensures.value c.loop-hop-test.true c.of_stream-seen.ensures.seen in
    entry_changed c.requires.before.old (stream_sender c.args.stream.now)
    (get_or c.ports-port-items.result.now c.loop-hop.hop 0) c.loop-hop.hop (port_sender c.of_stream-seen.result)
    c.args.shares.now c.loop-hop.shares (without c.args.network.now) c.set.new.self c.share_left-left.result entry
    c.loop-hop.invariant (ap Some (sym c.share_left-left.ensures)) c.set.ensures

pub returns : goal.returns
returns c =
    let end : length c.args.stream.now.ports ≤ c.loop-hop.hop =
    omega (arith, c.loop-hop-test.false, ap length c.ports-port-items.ensures.value) in
    shares_left c.requires.before.old c.args.network.now c.args.stream.now c.requires.before.is_less
    c.args.shares.now c.loop-hop.shares c.requires.before.counted
    (subst (λ (path : List ℕ). ChangesAlong (without c.args.network.now) (stream_sender c.args.stream.now) path
    c.args.shares.now c.loop-hop.shares) (take_all c.loop-hop.hop c.args.stream.now.ports end) c.loop-hop.invariant)
