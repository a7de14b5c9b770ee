use Rattle.std.proofs.Common.{◌≤◌, ℕ, List, get_or, length, subst, ap, arith}
use Rattle.std.proofs.lemmas.List.{take_all}
use Rattle.ats_network.specs.Sender.{Sender}
use Rattle.ats_network.specs.Senders.{sender_at}
use Rattle.ats_network.proofs.SenderLemmas.{sender_keeps}
use Rattle.ats_tally.specs.SenderAtPort.{port_sender}
use Rattle.ats_tally.proofs.Changed.{ChangesAlong}
use Rattle.ats_tally.proofs.Network.{few_ports}
use Rattle.ats_tally.proofs.Entries.{counted, entered_all, entry_counted, entry_is, entry_room}
use Rattle.ats_tally.proofs.shares.enter_along.Goals as goal

pub overflow_cast-hop : goal.overflow_cast-hop
overflow_cast-hop c =
    let few = few_ports c.args.network.now c.args.sender c.sender_ports-port-items.ensures.rules c.requires.sender in
    omega (arith, few, c.loop-hop-test.true, ap length c.sender_ports-port-items.ensures.value)

pub get-share-requires-clause-port : goal.get-share-requires-clause-port
get-share-requires-clause-port c =
    let network = c.args.network.now in
    let s : Sender = sender_at network c.args.sender in
    let entry = entry_is network s c.sender_ports-port-items.result.now c.loop-hop.hop (port_sender c.at-seen.result)
    (sender_keeps network c.args.sender c.sender_ports-port-items.ensures.rules c.requires.sender)
    c.sender_ports-port-items.ensures.value c.loop-hop-test.true c.at-seen.ensures.seen in
    omega (arith, entry.inside, c.loop-hop.invariant.count, c.requires.count)

pub get-share-requires-clause-class : goal.get-share-requires-clause-class
get-share-requires-clause-class c =
    let network = c.args.network.now in
    let s : Sender = sender_at network c.args.sender in
    let entry = entry_is network s c.sender_ports-port-items.result.now c.loop-hop.hop (port_sender c.at-seen.result)
    (sender_keeps network c.args.sender c.sender_ports-port-items.ensures.rules c.requires.sender)
    c.sender_ports-port-items.ensures.value c.loop-hop-test.true c.at-seen.ensures.seen in
    entry.most

pub with_sender-requires-clause-room : goal.with_sender-requires-clause-room
with_sender-requires-clause-room c =
    let network = c.args.network.now in
    let s : Sender = sender_at network c.args.sender in
    let entry = entry_is network s c.sender_ports-port-items.result.now c.loop-hop.hop (port_sender c.at-seen.result)
    (sender_keeps network c.args.sender c.sender_ports-port-items.ensures.rules c.requires.sender)
    c.sender_ports-port-items.ensures.value c.loop-hop-test.true c.at-seen.ensures.seen in
    entry_room network s (get_or c.sender_ports-port-items.result.now c.loop-hop.hop 0) c.loop-hop.hop
    (port_sender c.at-seen.result) c.args.shares.now c.loop-hop.shares (counted network.topology s c.args.shares.now)
    c.get-share.result entry c.loop-hop.invariant c.requires.room c.get-share.ensures

pub set-requires-clause-port : goal.set-requires-clause-port
set-requires-clause-port c =
    let network = c.args.network.now in
    let s : Sender = sender_at network c.args.sender in
    let entry = entry_is network s c.sender_ports-port-items.result.now c.loop-hop.hop (port_sender c.at-seen.result)
    (sender_keeps network c.args.sender c.sender_ports-port-items.ensures.rules c.requires.sender)
    c.sender_ports-port-items.ensures.value c.loop-hop-test.true c.at-seen.ensures.seen in
    omega (arith, entry.inside, c.loop-hop.invariant.count, c.requires.count)

pub set-requires-clause-class : goal.set-requires-clause-class
set-requires-clause-class c =
    let network = c.args.network.now in
    let s : Sender = sender_at network c.args.sender in
    let entry = entry_is network s c.sender_ports-port-items.result.now c.loop-hop.hop (port_sender c.at-seen.result)
    (sender_keeps network c.args.sender c.sender_ports-port-items.ensures.rules c.requires.sender)
    c.sender_ports-port-items.ensures.value c.loop-hop-test.true c.at-seen.ensures.seen in
    entry.most

pub loop-hop-preserved : goal.loop-hop-preserved
loop-hop-preserved c =
    let network = c.args.network.now in
    let s : Sender = sender_at network c.args.sender in
    let entry = entry_is network s c.sender_ports-port-items.result.now c.loop-hop.hop (port_sender c.at-seen.result)
    (sender_keeps network c.args.sender c.sender_ports-port-items.ensures.rules c.requires.sender)
    c.sender_ports-port-items.ensures.value c.loop-hop-test.true c.at-seen.ensures.seen in
    entry_counted network s (get_or c.sender_ports-port-items.result.now c.loop-hop.hop 0) c.loop-hop.hop
    (port_sender c.at-seen.result) c.args.shares.now c.loop-hop.shares c.set.new.self c.get-share.result
    c.with_sender.result entry c.loop-hop.invariant c.get-share.ensures c.with_sender.ensures c.set.ensures

pub returns : goal.returns
returns c =
    let s : Sender = sender_at c.args.network.now c.args.sender in
    let end : length s.ports ≤ c.loop-hop.hop =
    omega (arith, c.loop-hop-test.false, ap length c.sender_ports-port-items.ensures.value) in
    entered_all c.args.network.now.topology s c.args.shares.now c.loop-hop.shares
    (subst (λ (path : List ℕ). ChangesAlong
    (counted c.args.network.now.topology s c.args.shares.now) s path c.args.shares.now c.loop-hop.shares)
    (take_all c.loop-hop.hop s.ports end) c.loop-hop.invariant)
