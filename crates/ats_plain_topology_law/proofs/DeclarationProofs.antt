use Rattle.std.proofs.Common.{refl}
use Rattle.ats_plain_topology_law.specs.Declarations.{ChangesAreGiven, DeclarationsAreGiven, NumbersAreGiven}

-- What streams and flows declare.

given : NumbersAreGiven
given = record {
  traffic = λ rate burst_bits min_octets max_octets. refl;
  flow = λ name path max_octets. refl;
  stream = λ name ports branches classes rate burst_bits min_octets max_octets deadline_ns identity. refl;
  one_listener = λ name path classes rate burst_bits min_octets max_octets deadline_ns identity. refl;
}

changes : ChangesAreGiven
changes = record {
  class = λ s class. refl;
  burst = λ s burst_bits. refl;
}

pub declarations_are_given : DeclarationsAreGiven
declarations_are_given = record { given = given; changes = changes }
