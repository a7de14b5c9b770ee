use Rattle.std.proofs.Common.{lit≤, refl}
use Rattle.ats_witness_examples.specs.Sums.{SumsAreOfLeast, SumsAreOwn}

-- The sums by computation.

sums_are_of_least : SumsAreOfLeast
sums_are_of_least = record {
  sum = λ network stream listener. refl;
  within = λ network stream listener delay. (λ is. is, λ most. most);
  slow = refl;
  most = lit≤ tt;
}

pub sums_are_own : SumsAreOwn
sums_are_own = record {
  first = refl;
  second = refl;
  to_first = refl;
  to_second = refl;
  to_third = refl;
  of_bound = λ network stream listener. record {
    is_within = λ delay most. most;
    at_most = λ delay most. most;
  };
  of_least = sums_are_of_least;
}
