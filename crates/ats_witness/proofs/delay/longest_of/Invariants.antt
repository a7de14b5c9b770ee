use Rattle.std.proofs.Common.{◌≡◌, take}
use Rattle.ats_witness.specs.Longest.{longest_of}
use Rattle.ats_witness.proofs.delay.longest_of.Given as goal

-- the longest of the frames so far
abbrev pub invariant-loop-frame : goal.invariant-loop-frame
invariant-loop-frame l = l.longest ≡ longest_of l.sender l.listener (take l.frame l.run)
