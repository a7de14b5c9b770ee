use Rattle.std.proofs.Common.{◌≡◌, ℕ, Option, Some, None, refl}
use Rattle.std.specs.Prelude.{ok_or}
use Rattle.ats_num.specs.Failure.{or_fault}
use Rattle.ats_plain_topology_law.specs.Results.{ResultsAreGiven}

-- What comes of values, tests and faults.

found : (fault : ℕ) (value : Option ℕ) → or_fault fault value ≡ ok_or value fault
found fault None = refl
found fault (Some x) = refl

pub results_are_given : ResultsAreGiven
results_are_given = record {
  found = found;
  passes = λ fault x. refl;
  fails = λ fault x. refl;
  unopposed = λ fault x. refl;
  opposed = λ fault f x. refl;
  goes_on = λ x f. refl;
  ends = λ e f. refl;
}
