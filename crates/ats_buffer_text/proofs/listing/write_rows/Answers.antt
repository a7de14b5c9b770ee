use Rattle.std.proofs.Common.{ℕ, ◌++◌, get_or, Option, ap, ◌∙◌, arith}
use Rattle.std.specs.Option.{option_copied}
use Rattle.ats_certificate.specs.declared.row.Row.{Row}
use Rattle.ats_buffer_text.specs.Text.{numbered_line, row_line}
use Rattle.ats_buffer_text.proofs.Numbered.{next_row, all_rows}
use Rattle.ats_buffer_text.proofs.listing.write_rows.Goals as goal

-- for rows past the last one
none : Row
none = record {
  port = 0;
  class = 0;
  higher = 0;
  equal = 0;
  bursts = 0;
  lower = 0;
  least = 0;
  wait = 0;
  bound = 0;
}

pub loop-n-preserved : goal.loop-n-preserved
unfolding none
loop-n-preserved c =
    next_row (numbered_line c.args.topology.now c.args.buffers.now (option_copied c.args.peaks)) c.args.rows.now
    c.loop-n.n none c.args.out.now.items c.loop-n.out.items c.write_row.new.out.items (omega arith) c.loop-n.invariant
    (c.in_ok-write_row.ensures
    ∙ ap (λ (peak : Option ℕ). c.loop-n.out.items ++ row_line c.args.topology.now
    (get_or c.args.rows.now c.loop-n.n none) (get_or c.args.buffers.now c.loop-n.n 0) peak) c.peak_of.ensures)

pub returns : goal.returns
returns c =
    all_rows (numbered_line c.args.topology.now c.args.buffers.now (option_copied c.args.peaks)) c.args.rows.now
    c.loop-n.n c.args.out.now.items c.loop-n.out.items (omega arith) c.loop-n.invariant
