use Rattle.ats_tally.specs.Tallies.{SetsTallies}
use Rattle.ats_tally.proofs.tallies.set_tallies.Given as goal

-- the tallies of the classes so far are put
abbrev pub invariant-loop-class : goal.invariant-loop-class
invariant-loop-class l = SetsTallies l.port l.class l.tallies l.initial.table l.table
