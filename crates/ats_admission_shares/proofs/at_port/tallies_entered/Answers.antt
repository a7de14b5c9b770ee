use Rattle.std.proofs.Common.{ℕ, get_or, set, sym, subst, arith}
use Rattle.std.specs.List.{All}
use Rattle.ats_network.specs.Network.{DeclaredNetwork, senders_of}
use Rattle.ats_certificate.specs.PortSums.{senders_at}
use Rattle.ats_tally.specs.SenderAtPort.{port_sender}
use Rattle.ats_tally.specs.Shares.{AreShares, IsLimited}
use Rattle.ats_tally.specs.Tallies.{AreClassTallies}
use Rattle.ats_tally.specs.declared.share.Share.{Share}
use Rattle.ats_tally.specs.declared.tally.TheConstants.{MAX_SENDERS}
use Rattle.ats_tally.proofs.Eight.{classes_seen}
use Rattle.ats_admission_shares.proofs.Entered.{entering}
use Rattle.ats_admission_shares.proofs.CountedAt.{counted_is}
use Rattle.ats_admission_shares.proofs.at_port.tallies_entered.Goals as goal

pub eight_at-own-requires : goal.eight_at-own-requires
eight_at-own-requires c =
    let entry = entering c.args.network.now c.args.stream c.args.hop c.sender_ports.result.now
    (port_sender c.at-sender.result) c.sender_ports.ensures.rules c.requires.stream c.requires.hop
    c.sender_ports.ensures.value c.at-sender.ensures.seen in
    omega (arith, entry.inside, c.requires.shares.count)

pub bounds-own-class : goal.bounds-own-class
bounds-own-class c =
    let entry = entering c.args.network.now c.args.stream c.args.hop c.sender_ports.result.now
    (port_sender c.at-sender.result) c.sender_ports.ensures.rules c.requires.stream c.requires.hop
    c.sender_ports.ensures.value c.at-sender.ensures.seen in
    omega (arith, entry.most)

pub bounds-own-class-2 : goal.bounds-own-class-2
bounds-own-class-2 c =
    let entry = entering c.args.network.now c.args.stream c.args.hop c.sender_ports.result.now
    (port_sender c.at-sender.result) c.sender_ports.ensures.rules c.requires.stream c.requires.hop
    c.sender_ports.ensures.value c.at-sender.ensures.seen in
    omega (arith, entry.most)

pub with_sender-requires-clause-room : goal.with_sender-requires-clause-room
with_sender-requires-clause-room c =
    let port : ℕ = get_or c.sender_ports.result.now c.args.hop 0 in
    let entry = entering c.args.network.now c.args.stream c.args.hop c.sender_ports.result.now
    (port_sender c.at-sender.result) c.sender_ports.ensures.rules c.requires.stream c.requires.hop
    c.sender_ports.ensures.value c.at-sender.ensures.seen in
    (counted_is c.args.network.now c.args.stream port c.args.hop (port_sender c.at-sender.result) c.args.shares.now
    c.eight_at-own.result c.sender_ports.ensures.rules c.requires.stream entry c.requires.shares
    c.eight_at-own.ensures).room

pub tallies_of-requires-clause-limits : goal.tallies_of-requires-clause-limits
tallies_of-requires-clause-limits c =
    let port : ℕ = get_or c.sender_ports.result.now c.args.hop 0 in
    let entry = entering c.args.network.now c.args.stream c.args.hop c.sender_ports.result.now
    (port_sender c.at-sender.result) c.sender_ports.ensures.rules c.requires.stream c.requires.hop
    c.sender_ports.ensures.value c.at-sender.ensures.seen in
    subst (λ (share : Share). All (IsLimited MAX_SENDERS) (set c.eight_at-own.result c.at-sender.result.class share))
    (sym c.with_sender.ensures)
    (counted_is c.args.network.now c.args.stream port c.args.hop (port_sender c.at-sender.result) c.args.shares.now
    c.eight_at-own.result c.sender_ports.ensures.rules c.requires.stream entry c.requires.shares
    c.eight_at-own.ensures).limits

pub returns : goal.returns
returns c =
    let network : DeclaredNetwork = c.args.network.now in
    let port : ℕ = get_or c.sender_ports.result.now c.args.hop 0 in
    let entry = entering c.args.network.now c.args.stream c.args.hop c.sender_ports.result.now
    (port_sender c.at-sender.result) c.sender_ports.ensures.rules c.requires.stream c.requires.hop
    c.sender_ports.ensures.value c.at-sender.ensures.seen in
    subst (λ (p : ℕ). AreClassTallies (senders_at network.topology p (senders_of network)) c.tallies_of.result) entry.at
    (c.tallies_of.ensures (senders_at network.topology port (senders_of network))
    (subst (λ (share : Share). AreShares (senders_at network.topology port (senders_of network))
    (set c.eight_at-own.result c.at-sender.result.class share)) (sym c.with_sender.ensures)
    (counted_is c.args.network.now c.args.stream port c.args.hop (port_sender c.at-sender.result) c.args.shares.now
    c.eight_at-own.result c.sender_ports.ensures.rules c.requires.stream entry c.requires.shares
    c.eight_at-own.ensures).counted)
    (classes_seen network port c.sender_ports.ensures.rules))
