use Rattle.std.proofs.Common.{◌≡◌, ◌+◌, ◌<◌, ◌≤◌, ℕ, cond, eqb, List, length, map, take, sym, ap, ◌∙◌, arith}
use Rattle.std.proofs.lemmas.List.{take_all}
use Rattle.ats_network.specs.Class.{PortSender}
use Rattle.ats_network.specs.Network.{DeclaredNetwork, senders_of}
use Rattle.ats_network.specs.Sender.{stream_sender}
use Rattle.ats_certificate.specs.PortSums.{senders_at}
use Rattle.ats_tally.specs.SenderAtPort.{port_sender}
use Rattle.ats_admission_shares.specs.Frames.{frames_in, frames_of, frames_with}
use Rattle.ats_admission_shares.specs.PortShares.{stream_paths}
use Rattle.ats_admission_shares.specs.declared.frames.Frames.{Frames}
use Rattle.ats_admission_shares.proofs.FrameLemmas.{frames_equal, frames_found, frames_more, streams_alone}
use Rattle.ats_admission_shares.proofs.SeenUsers.{many_users}
use Rattle.ats_admission_shares.proofs.frames.frames_counted.Goals as goal

pub returns-then-eq : goal.returns-then-eq
returns-then-eq c =
    let network : DeclaredNetwork = c.args.network.now in
    let class : ℕ = c.args.sender.now.class in
    let list : List PortSender = senders_at network.topology c.args.port (map stream_sender network.streams) in
    let s : PortSender = port_sender c.args.sender.now in
    let within : c.loop-place.place < length list = omega (
      arith,
      c.loop-place-test.true,
      c.count-place-end.ensures.users (length network.topology.ports) (stream_paths network) c.requires.users,
      many_users network c.args.port,
    ) in
    let next : c.with_sender-frames.result ≡ frames_of class (take (c.loop-place.place + 1) list) =
    c.with_sender-frames.ensures
    ∙ ap (λ (f : Frames). cond (eqb c.seen_user-user.result.class class)
    (frames_with (port_sender c.seen_user-user.result) f) f) c.loop-place.invariant
    ∙ frames_more class list c.loop-place.place (port_sender c.seen_user-user.result) within
    c.seen_user-user.ensures.seen in
    let alone : frames_of class list ≡ frames_of class (senders_at network.topology c.args.port (senders_of network)) =
    ap frames_in (streams_alone network c.args.port class c.requires.class) in
    next
    ∙ frames_found class list (c.loop-place.place + 1) s
    (sym next
    ∙ frames_equal c.with_sender-frames.result c.args.before (sym c.eq.ensures ∙ c.if-eq.true)
    ∙ c.requires.before
    ∙ ap (frames_with s) (sym alone))
    ∙ alone

pub loop-place-preserved : goal.loop-place-preserved
loop-place-preserved c =
    let network : DeclaredNetwork = c.args.network.now in
    let class : ℕ = c.args.sender.now.class in
    let list : List PortSender = senders_at network.topology c.args.port (map stream_sender network.streams) in
    let within : c.loop-place.place < length list = omega (
      arith,
      c.loop-place-test.true,
      c.count-place-end.ensures.users (length network.topology.ports) (stream_paths network) c.requires.users,
      many_users network c.args.port,
    ) in
    c.with_sender-frames.ensures
    ∙ ap (λ (f : Frames). cond (eqb c.seen_user-user.result.class class)
    (frames_with (port_sender c.seen_user-user.result) f) f) c.loop-place.invariant
    ∙ frames_more class list c.loop-place.place (port_sender c.seen_user-user.result) within
    c.seen_user-user.ensures.seen

pub returns : goal.returns
returns c =
    let network : DeclaredNetwork = c.args.network.now in
    let class : ℕ = c.args.sender.now.class in
    let list : List PortSender = senders_at network.topology c.args.port (map stream_sender network.streams) in
    let end : length list ≤ c.loop-place.place = omega (
      arith,
      c.loop-place-test.false,
      c.count-place-end.ensures.users (length network.topology.ports) (stream_paths network) c.requires.users,
      many_users network c.args.port,
    ) in
    c.loop-place.invariant
    ∙ ap (frames_of class) (take_all c.loop-place.place list end)
    ∙ ap frames_in (streams_alone network c.args.port class c.requires.class)
