use Rattle.std.proofs.Common.{refl}
use Rattle.ats_plain_bound_law.specs.Sums.{SumsAreReckoned}

-- Which frames of a port's senders a class waits for, and which of its own counts.
pub sums_are_reckoned : SumsAreReckoned
sums_are_reckoned = record {
  lower = λ network port class. refl;
  least = λ network port class. refl;
  of_none = refl;
  of_some = λ n ns. refl;
}
