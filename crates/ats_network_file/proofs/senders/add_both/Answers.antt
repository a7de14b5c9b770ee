use Rattle.ats_network_file.specs.Senders.{alone, placed}
use Rattle.ats_network_file.proofs.Placed.{both_fail, both_give}
use Rattle.ats_network_file.proofs.senders.add_both.Goals as goal

pub returns-in_err-add_all-clause-value : goal.returns-in_err-add_all-clause-value
returns-in_err-add_all-clause-value g c =
    both_fail (g.E.SenderEntry.added c.args.format) c.args.network.now c.add_all.new.network
    (placed alone c.args.table 1 c.args.entries.now) c.args.at_ports.now c.from_residual.result
    c.in_err-add_all.field-0.0 c.from_residual.ensures.1 c.in_err-add_all.ensures.value

pub returns-clause-value : goal.returns-clause-value
returns-clause-value g c =
    both_give (g.E.SenderEntry.added c.args.format) c.args.network.now c.add_all.new.network
    c.add_placed.new.network (placed alone c.args.table 1 c.args.entries.now) c.args.at_ports.now
    c.add_placed.result c.in_ok-add_all.ensures.value c.add_placed.ensures.value
