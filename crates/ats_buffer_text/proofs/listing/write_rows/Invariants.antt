use Rattle.std.proofs.Common.{◌≡◌, ◌++◌, take}
use Rattle.std.specs.List.{flat_map, enumerate_from}
use Rattle.std.specs.Option.{option_copied}
use Rattle.ats_buffer_text.specs.Text.{numbered_line}
use Rattle.ats_buffer_text.proofs.listing.write_rows.Given as goal

-- the lines of the rows so far
abbrev pub invariant-loop-n : goal.invariant-loop-n
invariant-loop-n l = l.out.items
    ≡ l.initial.out.items
    ++ flat_map (numbered_line l.topology l.buffers (option_copied l.fn.peaks)) (take l.n (enumerate_from 0 l.rows))
