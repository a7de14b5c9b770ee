use Rattle.std.proofs.Common.{◌≡◌, drop}
use Rattle.ats_tally.specs.Reason.{first_some}
use Rattle.ats_certificate.specs.Used.{places_from, places_of}
use Rattle.ats_checker.specs.Refusal.{missing}
use Rattle.ats_checker.proofs.places.first_missing.Given as goal

-- what is found first is at the ports still to come
abbrev pub invariant-loop-port : goal.invariant-loop-port
invariant-loop-port l =
    first_some (missing l.bounds.rows) (places_of l.tallies)
    ≡ first_some (missing l.bounds.rows) (places_from l.tallies l.port (drop l.port l.tallies.topology.ports))
