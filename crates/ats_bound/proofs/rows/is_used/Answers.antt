use Rattle.std.proofs.Common.{ap, sym, ◌∙◌, map, filter}
use Rattle.std.specs.List.{list_any}
use Rattle.ats_network.specs.Sender.{Sender, stream_sender}
use Rattle.ats_network.specs.Class.{seen_at}
use Rattle.ats_certificate.specs.PortSums.{is_of, uses}
use Rattle.ats_tally.proofs.Lists.{list_any-map, list_any-filter}
use Rattle.ats_bound.specs.Users.{is_user}
use Rattle.ats_bound.proofs.rows.is_used.Goals as goal

pub returns : goal.returns
returns c =
    c.is_used_by.ensures
    ∙ ap (list_any (λ s. is_user c.args.port c.args.class (stream_sender s)))
    c.streams.ensures.value
    ∙ sym (list_any-map (is_user c.args.port c.args.class) stream_sender c.args.network.now.streams)
    ∙ sym (list_any-filter (λ (s : Sender). is_of c.args.class (seen_at c.args.network.now.topology c.args.port s))
    (uses c.args.port)
    (map stream_sender c.args.network.now.streams))
    ∙ sym (list_any-map (is_of c.args.class) (seen_at c.args.network.now.topology c.args.port)
    (filter (uses c.args.port) (map stream_sender c.args.network.now.streams)))
