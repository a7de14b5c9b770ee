use Rattle.std.proofs.Common.{drop, length}
use Rattle.ats_admission_state.proofs.Placed.{AreBoundsOf}
use Rattle.ats_admission_state.proofs.opening.certified_bounds.Given as goal

-- the bounds of the last rows are there
abbrev pub invariant-loop-i : goal.invariant-loop-i
invariant-loop-i l = AreBoundsOf (length l.network.topology.ports) (drop l.i l.certificate) l.bounds
