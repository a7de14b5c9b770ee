use Rattle.std.proofs.Common.{◌≡◌, take}
use Rattle.ats_explain.specs.Totals.{over_among}
use Rattle.ats_explain.proofs.explanation.Explanation.over_along.Given as goal

-- the hops so far at which a frame may have to stay too long
abbrev pub invariant-loop-hop : goal.invariant-loop-hop
invariant-loop-hop l = l.over ≡ over_among l.self l.stream (take l.hop l.stream.ports)
