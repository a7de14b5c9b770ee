use Rattle.std.proofs.Common.{◌≡◌, ℕ, ◌<◌, List, length, Option, sym, ap, ◌∙◌, arith, subst}
use Rattle.std.specs.Prelude.{unwrap_or}
use Rattle.ats_streams.specs.Stream.{DeclaredStream}
use Rattle.ats_clock.specs.declared.committed.Committed.{Committed}
use Rattle.ats_topology.specs.Topology.{DeclaredTopology}
use Rattle.ats_network.specs.Network.{DeclaredNetwork}
use Rattle.ats_network.specs.Rates.{IsRated, scheduled_at}
use Rattle.ats_network.specs.Sender.{Sender, stream_sender}
use Rattle.ats_network.specs.Senders.{sender_at}
use Rattle.ats_settings.proofs.Behind.{looked_up, scheduler_made}
use Rattle.ats_settings.proofs.listing.scheduler.Goals as goal

pub scheduled_at-scheduler-requires : goal.scheduled_at-scheduler-requires
scheduled_at-scheduler-requires c =
    let within : c.args.sender < length c.args.network.now.streams = omega (
      arith,
      c.if-sender-streams.false,
      ap (λ (l : List DeclaredStream). length l) c.streams.ensures.value,
    ) in
    let whole = looked_up c.args.network.now c.streams-2.result.now c.args.sender c.index-streams-sender.result
    c.streams-2.ensures.value within c.index-streams-sender.is in
    rw (c.topology.ensures.value) (subst (λ (s : Sender). IsRated c.args.network.now.topology s c.args.received_from)
    whole (c.requires.rated within))

pub returns : goal.returns
returns c =
    let network : DeclaredNetwork = c.args.network.now in
    let item : DeclaredStream = c.index-streams-sender.result in
    let within : c.args.sender < length network.streams = omega (
      arith,
      c.if-sender-streams.false,
      ap (λ (l : List DeclaredStream). length l) c.streams.ensures.value,
    ) in
    let whole : sender_at network c.args.sender ≡ stream_sender item =
    looked_up network c.streams-2.result.now c.args.sender item c.streams-2.ensures.value within
    c.index-streams-sender.is in
    let has : c.scheduled_at-scheduler.result
    ≡ scheduled_at network.topology c.args.received_from (sender_at network c.args.sender) =
    c.scheduled_at-scheduler.ensures
    ∙ ap (λ (t : DeclaredTopology). scheduled_at t c.args.received_from (stream_sender item)) c.topology.ensures.value
    ∙ sym (ap (scheduled_at network.topology c.args.received_from) whole) in
    scheduler_made network c.args.sender c.args.received_from c.bps.result c.scheduled_at-scheduler.result.burst_bits
    c.unwrap_or.result c.residence.ensures.rules within c.requires.sender c.requires.port
    (c.bps.ensures.value ∙ ap (λ (r : Committed). r.rate) has) (ap (λ (r : Committed). r.burst_bits) has)
    (c.unwrap_or.ensures ∙ ap (λ (o : Option ℕ). unwrap_or o 0) c.residence.ensures.value)
