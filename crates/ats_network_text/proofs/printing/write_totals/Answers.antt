use Rattle.std.specs.Prelude.{codes, decimal}
use Rattle.ats_network_text.specs.Text.{totals_line}
use Rattle.ats_network_text.proofs.PortsOf.{three_written}
use Rattle.ats_network_text.proofs.printing.write_totals.Goals as goal

pub returns : goal.returns
unfolding totals_line
returns c =
    three_written c.args.out.now.items (codes "total ports ") (decimal c.args.ports) (codes " streams ")
    (decimal c.args.streams) (codes " flows ") (decimal c.args.flows) (codes "\n")
    c.write_number.new.out.items c.write_number-2.new.out.items c.write_number-3.new.out.items
    c.extend_from_slice.new.self.items
    c.in_ok-write_number.ensures c.in_ok-write_number-2.ensures c.in_ok-write_number-3.ensures
    c.in_ok-extend_from_slice.ensures.items
