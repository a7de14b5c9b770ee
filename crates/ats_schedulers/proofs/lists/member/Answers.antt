use Rattle.std.proofs.Common.{ℕ, ◌+◌, ◌*◌, List, refl, get_or, ap, ◌∙◌}
use Rattle.ats_network.specs.Rates.{declared_with, scheduled_at}
use Rattle.ats_network.specs.Sender.{stream_sender}
use Rattle.ats_schedulers.proofs.Listing.{member_is}
use Rattle.ats_schedulers.proofs.lists.member.Goals as goal

pub returns : goal.returns
returns c = member_is c.args.topology.now c.args.stream.now c.args.place
    (record {
      group = 8 * get_or c.ports.result.now c.args.place 0 + c.from.result;
      declared = c.declared_behind.result;
    })
    c.requires.stream c.ports.ensures.rules.each_port c.requires.place
    (rw (c.ports.ensures.value, c.from.ensures, c.classes.ensures.value) refl)
    (c.declared_behind.ensures
    ∙ ap (λ (ports : List ℕ). declared_with (scheduled_at c.args.topology.now (get_or ports c.args.place 0)
    (stream_sender c.args.stream.now)) (stream_sender c.args.stream.now)) c.ports.ensures.value)
