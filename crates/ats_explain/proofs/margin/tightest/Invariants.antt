use Rattle.ats_explain.proofs.Tightness.{IsBest}
use Rattle.ats_explain.proofs.margin.tightest.Given as goal

-- the first of the least slack of the margins so far
abbrev pub invariant-loop-i : goal.invariant-loop-i
invariant-loop-i l = IsBest l.margins l.i l.place
