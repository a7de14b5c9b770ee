use Rattle.std.proofs.Common.{◌≡◌, ◌++◌, take}
use Rattle.ats_certificate.specs.Certificate.{sums_of}
use Rattle.ats_tally.proofs.delays.push_sums.Given as goal

-- behind what was there, the sums for the listeners so far
abbrev pub invariant-loop-leg : goal.invariant-loop-leg
invariant-loop-leg l = l.sums.items ≡ l.initial.sums.items ++ take l.leg (sums_of l.bounds.rows l.stream)
