use Rattle.std.proofs.Common.{◌≡◌, ◌++◌, replicate}
use Rattle.ats_witness.proofs.burst.push_copies.Given as goal

-- the release was added as often as so far
abbrev pub invariant-loop : goal.invariant-loop
invariant-loop l = l.releases.items ≡ l.initial.releases.items ++ replicate l.counter l.release
