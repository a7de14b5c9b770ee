use Rattle.std.proofs.Common.{◌≡◌, ◌++◌, take}
use Rattle.std.specs.List.{flat_map}
use Rattle.ats_streams.specs.Branches.{leg_at, legs_of}
use Rattle.ats_explain_text.specs.Text.{hop_text}
use Rattle.ats_explain_text.proofs.printing.write_hops.Given as goal

-- the lines of the hops so far
abbrev pub invariant-loop-hop : goal.invariant-loop-hop
invariant-loop-hop l = l.out.items
    ≡ l.initial.out.items ++ flat_map (hop_text l.explanation l.stream)
    (take l.hop (leg_at (legs_of l.stream.ports l.stream.branches) l.leg))
