use Rattle.ats_bound.specs.Begun.{IsBegun, places_past}
use Rattle.ats_bound.proofs.listing.least_rows.Given as goal

-- the rows so far, with those of the later ports, make the least certificate
abbrev pub invariant-loop-port : goal.invariant-loop-port
invariant-loop-port l = IsBegun l.tallies l.certificate (places_past l.tallies l.port)
