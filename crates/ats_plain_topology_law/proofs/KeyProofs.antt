use Rattle.std.proofs.Common.{refl}
use Rattle.ats_plain_topology_law.specs.Keys.{KeysAreGiven}

-- Keys, waits and sizes of frames.

pub keys_are_given : KeysAreGiven
keys_are_given = record {
  late = λ sender frame. refl;
  mixed = λ n sender frame. refl;
  wait = λ n frame spread. refl;
  size = λ octets. ((λ is. (is.least, is.most)), (λ is. record { least = is.0; most = is.1 }));
}
