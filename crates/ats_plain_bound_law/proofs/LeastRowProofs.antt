use Rattle.std.proofs.Common.{refl}
use Rattle.ats_plain_bound_law.specs.LeastRows.{LeastRowsAreReckoned}

-- What stands in the least rows of a network.
pub least_rows_are_reckoned : LeastRowsAreReckoned
least_rows_are_reckoned = record {
  port = λ network port class. refl;
  class = λ network port class. refl;
  higher = λ network port class. refl;
  equal = λ network port class. refl;
  bursts = λ network port class. refl;
  lower = λ network port class. refl;
  least = λ network port class. refl;
  wait = λ network port class. refl;
  bound = λ network port class. refl;
  all = λ network. refl;
}
