use Rattle.std.specs.List.{list_any}
use Rattle.ats_streams.specs.Branches.{is_bad_route, routes_of}
use Rattle.ats_streams.specs.Stream.{route_fault, stream_fault}
use Rattle.ats_route_tree.specs.LegsView.{legs_view}
use Rattle.ats_network_file.specs.Senders as senders
use Rattle.ats_network_file.specs.declared.fault.NetFault.TheVariants.{Sender}
use Rattle.ats_network_file.proofs.Made.{broken_made, fails_still, gives_on, kept_made, not_so}
use Rattle.ats_network_file.proofs.streams.short_stream.Goals as goal

pub returns-in_err-stream-clause-value : goal.returns-in_err-stream-clause-value
returns-in_err-stream-clause-value c =
    let stream = senders.stream_over (legs_view c.args.legs) c.args.entry.now in
    gives_on c.from_residual.result c.in_err-stream.field-0.0 _ c.from_residual.ensures.1
    (fails_still (Sender c.args.place.table c.args.place.number) (stream_fault c.args.entry.now.classes stream)
    (route_fault c.args.most (routes_of stream.ports stream.branches)) stream c.in_err-stream.field-0.0
    c.in_err-stream.ensures.value)

pub returns-then-has_short_routes-clause-value : goal.returns-then-has_short_routes-clause-value
returns-then-has_short_routes-clause-value c =
    let stream = senders.stream_over (legs_view c.args.legs) c.args.entry.now in
    kept_made (Sender c.args.place.table c.args.place.number) (stream_fault c.args.entry.now.classes stream)
    (λ s. list_any (is_bad_route c.args.most) (routes_of s.ports s.branches)) stream
    c.in_ok-stream.stream c.in_ok-stream.ensures.value (not_so _ _ c.if-has_short_routes.ensures.value)

pub returns-else-has_short_routes-clause-value : goal.returns-else-has_short_routes-clause-value
returns-else-has_short_routes-clause-value c =
    let stream = senders.stream_over (legs_view c.args.legs) c.args.entry.now in
    broken_made (Sender c.args.place.table c.args.place.number) (stream_fault c.args.entry.now.classes stream)
    (λ s. list_any (is_bad_route c.args.most) (routes_of s.ports s.branches)) stream
    c.in_ok-stream.stream c.broken.result c.in_ok-stream.ensures.value
    (not_so _ _ c.if-has_short_routes.ensures.value) c.broken.ensures
