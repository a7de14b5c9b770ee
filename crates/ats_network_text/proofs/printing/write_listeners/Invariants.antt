use Rattle.std.proofs.Common.{◌≡◌, ◌++◌}
use Rattle.ats_network_text.proofs.Legs.{lines_to}
use Rattle.ats_network_text.proofs.printing.write_listeners.Given as goal

-- the text has the lines of the branches so far
abbrev pub invariant-loop-leg : goal.invariant-loop-leg
invariant-loop-leg l = l.out.items ≡ l.initial.out.items ++ lines_to l.topology l.stream l.leg
