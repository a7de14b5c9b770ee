use Rattle.std.proofs.Common.{◌≡◌, ◌++◌, take}
use Rattle.std.specs.List.{flat_map, zip}
use Rattle.ats_witness_text.specs.Text.{hop_line}
use Rattle.ats_witness_text.proofs.printing.write_hops.Given as goal

-- the text has the lines of the ports so far
abbrev pub invariant-loop-hop : goal.invariant-loop-hop
invariant-loop-hop l = l.out.items
    ≡ l.initial.out.items ++ flat_map (hop_line l.topology) (zip l.route (take l.hop l.delays))
