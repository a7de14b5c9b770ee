use Rattle.std.proofs.Common.{◌≡◌, ◌≤◌, length, take, sum_by}
use Rattle.ats_streams.specs.Stream.{DeclaredStream}
use Rattle.ats_explain.specs.Totals.{over_among}
use Rattle.ats_explain.proofs.explanation.Explanation.over.Given as goal

-- those of the streams so far, of each at most as many as its ports
abbrev pub invariant-loop-stream : goal.invariant-loop-stream
invariant-loop-stream l = record {
  sum : l.over ≡ sum_by (λ (s : DeclaredStream). over_among l.self s s.ports) (take l.stream-index l.self.streams);
  most : l.over ≤ sum_by (λ (s : DeclaredStream). length s.ports) (take l.stream-index l.self.streams);
}
