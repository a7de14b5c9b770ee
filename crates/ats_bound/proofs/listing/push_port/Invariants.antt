use Rattle.ats_bound.specs.Begun.{IsBegun}
use Rattle.ats_bound.proofs.Beginnings.{places_left}
use Rattle.ats_bound.proofs.listing.push_port.Given as goal

-- the rows so far, with those of the later classes and ports, make the least certificate
abbrev pub invariant-loop-class : goal.invariant-loop-class
invariant-loop-class l = IsBegun l.tallies l.certificate (places_left l.tallies l.port l.class-index)
