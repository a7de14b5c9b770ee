use Rattle.std.proofs.Common.{◌≡◌, ◌-◌, drop}
use Rattle.ats_tally.specs.Reason.{first_some}
use Rattle.ats_certificate.specs.Used.{stream_classes}
use Rattle.ats_checker.specs.Refusal.{missing_at}
use Rattle.ats_checker.proofs.places.missing_of.Given as goal

-- what is found first is of the classes still to come
abbrev pub invariant-loop-class : goal.invariant-loop-class
invariant-loop-class l = first_some (missing_at l.tallies l.bounds.rows l.port) stream_classes
    ≡ first_some (missing_at l.tallies l.bounds.rows l.port) (drop (l.class - 1) stream_classes)
