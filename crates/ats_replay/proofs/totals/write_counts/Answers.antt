use Rattle.std.specs.Prelude.{codes, decimal}
use Rattle.ats_replay.specs.Totals.{counts_text}
use Rattle.ats_replay.proofs.Counts.{four_written}
use Rattle.ats_replay.proofs.totals.write_counts.Goals as goal

pub returns : goal.returns
unfolding counts_text
returns c =
    four_written c.args.out.now.items (codes "frames ") (decimal c.args.totals.now.frames) (codes " sunk ")
    (decimal c.args.totals.now.sunk) (codes " late ") (decimal c.args.totals.now.late) (codes " size ")
    (decimal c.args.totals.now.size)
    c.write_number.new.out.items c.write_number-2.new.out.items c.write_number-3.new.out.items
    c.write_number-4.new.out.items
    c.in_ok-write_number.ensures c.in_ok-write_number-2.ensures c.in_ok-write_number-3.ensures
    c.in_ok-write_number-4.ensures
