use Rattle.ats_engine.specs.Starts.{AreReleasedTo}
use Rattle.ats_engine.specs.Told.{agenda_told}
use Rattle.ats_engine.proofs.opening.agenda_of.Given as goal

abbrev pub invariant-loop-frame : goal.invariant-loop-frame
invariant-loop-frame g l = AreReleasedTo l.net l.releases l.fn.order l.frame
    (agenda_told l.agenda)
