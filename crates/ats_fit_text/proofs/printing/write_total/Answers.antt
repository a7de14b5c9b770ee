use Rattle.std.specs.Prelude.{codes, decimal}
use Rattle.ats_fit_text.specs.Text.{total_line}
use Rattle.ats_fit_text.proofs.Lines.{total_written}
use Rattle.ats_fit_text.proofs.printing.write_total.Goals as goal

pub returns : goal.returns
unfolding total_line
returns c =
    total_written c.args.out.now.items (codes "total frames ") (decimal c.args.frames) (codes " streams ")
    (decimal c.args.streams) (codes " over ") (decimal c.args.over) (codes "\n") c.write_number.new.out.items
    c.write_number-2.new.out.items c.write_number-3.new.out.items c.extend_from_slice.new.self.items
    c.in_ok-write_number.ensures c.in_ok-write_number-2.ensures c.in_ok-write_number-3.ensures
    c.in_ok-extend_from_slice.ensures.items
