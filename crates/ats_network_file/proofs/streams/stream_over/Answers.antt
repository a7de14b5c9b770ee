use Rattle.ats_streams.specs.Stream.{stream_fault_within}
use Rattle.ats_route_tree.specs.LegsView.{legs_view}
use Rattle.ats_network.specs.Rates.{is_overrated}
use Rattle.ats_network.specs.Sender.{stream_sender}
use Rattle.ats_network_file.specs.Senders as senders
use Rattle.ats_network_file.specs.declared.fault.NetFault.TheVariants.{Sender}
use Rattle.ats_network_file.proofs.Made.{broken_made, fails_still, gives_on, kept_made}
use Rattle.ats_network_file.proofs.streams.stream_over.Goals as goal

pub returns-in_err-stream-clause-value : goal.returns-in_err-stream-clause-value
returns-in_err-stream-clause-value c =
    let stream = senders.stream_over (legs_view c.args.legs) c.args.entry.now in
    gives_on c.from_residual.result c.in_err-stream.field-0.0 _ c.from_residual.ensures.1
    (fails_still (Sender c.args.place.table c.args.place.number)
    (stream_fault_within c.args.most c.args.entry.now.classes stream)
    (senders.rate_fault c.args.topology.now stream) stream c.in_err-stream.field-0.0
    c.in_err-stream.ensures.value)

pub returns-then-is_overrated-clause-value : goal.returns-then-is_overrated-clause-value
returns-then-is_overrated-clause-value c =
    let stream = senders.stream_over (legs_view c.args.legs) c.args.entry.now in
    broken_made (Sender c.args.place.table c.args.place.number)
    (stream_fault_within c.args.most c.args.entry.now.classes stream)
    (λ s. is_overrated c.args.topology.now (stream_sender s)) stream
    c.in_ok-stream.stream c.broken.result c.in_ok-stream.ensures.value c.if-is_overrated.ensures c.broken.ensures

pub returns-else-is_overrated-clause-value : goal.returns-else-is_overrated-clause-value
returns-else-is_overrated-clause-value c =
    let stream = senders.stream_over (legs_view c.args.legs) c.args.entry.now in
    kept_made (Sender c.args.place.table c.args.place.number)
    (stream_fault_within c.args.most c.args.entry.now.classes stream)
    (λ s. is_overrated c.args.topology.now (stream_sender s)) stream
    c.in_ok-stream.stream c.in_ok-stream.ensures.value c.if-is_overrated.ensures
