use Rattle.std.proofs.Common.{ℕ}
use Rattle.std.specs.List.{IsFirstMaxByKey}
use Rattle.ats_witness.proofs.finding.first_greatest.Given as goal

-- the first of the greatest of the numbers so far
abbrev pub invariant-loop-place : goal.invariant-loop-place
invariant-loop-place l = IsFirstMaxByKey (λ (n : ℕ). n) l.numbers l.place l.first
