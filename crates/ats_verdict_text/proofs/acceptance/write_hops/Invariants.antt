use Rattle.std.proofs.Common.{◌≡◌, ◌++◌, take}
use Rattle.ats_streams.specs.Branches.{leg_at, legs_of}
use Rattle.ats_verdict_text.specs.Text.{hop_lines}
use Rattle.ats_verdict_text.proofs.acceptance.write_hops.Given as goal

-- the lines of the hops so far
abbrev pub invariant-loop-hop : goal.invariant-loop-hop
invariant-loop-hop l = l.out.items
    ≡ l.initial.out.items ++ hop_lines l.topology l.bounds.rows l.stream
    (take l.hop (leg_at (legs_of l.stream.ports l.stream.branches) l.leg))
