use Rattle.std.proofs.Common.{refl}
use Rattle.ats_text_examples.specs.Ports.{PortsAreWorked}

-- Ports, rows and reasons by computation.

pub ports_are_worked : PortsAreWorked
ports_are_worked = record {
  ports = refl;
  first_residence = refl;
  second_residence = refl;
  no_residence = refl;
  first_name = refl;
  fourth_name = refl;
  last_name = refl;
  first_named = refl;
  second_named = refl;
  none_named = refl;
  lower_sums = refl;
  upper_sums = refl;
  lower_wait = refl;
  upper_wait = refl;
  stay = refl;
  rows = refl;
  first_sum = refl;
  second_sum = refl;
  free = refl;
  stays = refl;
  late = refl;
}
