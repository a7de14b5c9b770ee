use Rattle.std.proofs.Common.{◌∙◌}
use Rattle.ats_num.specs.declared.failure.Failure.TheVariants.{NoMemory}
use Rattle.ats_network_file.specs.LinkLocal.{flows_at, streams_at}
use Rattle.ats_network_file.specs.Senders.{alone, placed}
use Rattle.ats_network_file.specs.declared.senders.SenderTable.TheVariants.{Stream, LinkLocal, Flow, LinkLocalFlow}
use Rattle.ats_network_file.proofs.Made.{flows_fail, flows_made, gives_on, senders_are, streams_fail}
use Rattle.ats_network_file.proofs.reading.network_in.Goals as goal

pub returns-in_err-add_both : goal.returns-in_err-add_both
returns-in_err-add_both c =
    gives_on c.from_residual-in_err-add_both.result c.in_err-add_both.field-0.0 _
    c.from_residual-in_err-add_both.ensures.1
    (streams_fail c.args.document.now c.in_ok-topology.topology c.new-network.result c.most_ports_of.result
    c.format-format.result _ c.in_err-add_both.field-0.0 c.in_ok-topology.ensures c.new-network.ensures
    c.most_ports_of.ensures.value c.format-format.ensures.value
    (senders_are (placed alone Stream 1) (placed (streams_at c.in_ok-topology.topology) LinkLocal 1) _ _ _ _ _
    c.streams.ensures.value c.link_locals.ensures.value (c.as_slice.ensures.value ∙ c.in_ok-streams.ensures))
    c.in_err-add_both.ensures.value)

pub returns-in_err-add_both-2 : goal.returns-in_err-add_both-2
returns-in_err-add_both-2 c =
    gives_on c.from_residual-in_err-add_both-2.result c.in_err-add_both-2.field-0.0 _
    c.from_residual-in_err-add_both-2.ensures.1
    (flows_fail c.args.document.now c.in_ok-topology.topology c.new-network.result c.most_ports_of.result
    c.format-format.result _ c.in_err-add_both-2.field-0.0 c.in_ok-topology.ensures c.new-network.ensures
    c.most_ports_of.ensures.value c.format-format.ensures.value
    (senders_are (placed alone Stream 1) (placed (streams_at c.in_ok-topology.topology) LinkLocal 1) _ _ _ _ _
    c.streams.ensures.value c.link_locals.ensures.value (c.as_slice.ensures.value ∙ c.in_ok-streams.ensures))
    c.add_both.new.network _ c.in_ok-add_both.ensures.value
    (senders_are (placed alone Flow 1) (placed (flows_at c.in_ok-topology.topology) LinkLocalFlow 1) _ _ _ _ _
    c.flows.ensures.value c.link_local_flows.ensures.value (c.as_slice-2.ensures.value ∙ c.in_ok-flows.ensures))
    c.in_err-add_both-2.ensures.value)

pub returns : goal.returns
returns c =
    flows_made c.args.document.now c.in_ok-topology.topology c.new-network.result c.most_ports_of.result
    c.format-format.result _ NoMemory c.in_ok-topology.ensures c.new-network.ensures
    c.most_ports_of.ensures.value c.format-format.ensures.value
    (senders_are (placed alone Stream 1) (placed (streams_at c.in_ok-topology.topology) LinkLocal 1) _ _ _ _ _
    c.streams.ensures.value c.link_locals.ensures.value (c.as_slice.ensures.value ∙ c.in_ok-streams.ensures))
    c.add_both.new.network _ c.in_ok-add_both.ensures.value
    (senders_are (placed alone Flow 1) (placed (flows_at c.in_ok-topology.topology) LinkLocalFlow 1) _ _ _ _ _
    c.flows.ensures.value c.link_local_flows.ensures.value (c.as_slice-2.ensures.value ∙ c.in_ok-flows.ensures))
    ∙ c.in_ok-add_both-2.ensures.value
