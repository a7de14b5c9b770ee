use Rattle.std.specs.Prelude.{ℕ, ◌*◌, unwrap_or}
use Rattle.ats_certificate.specs.PortSums.{PortSums}
use Rattle.ats_tally.specs.declared.tally.Tally.{Tally}
use Rattle.ats_tally.specs.declared.class_sums.ClassSums.{ClassSums}

-- these sums as those of a port
abbrev pub port_sums_of : ClassSums → PortSums
port_sums_of sums = record {
  higher = sums.higher;
  equal = sums.equal;
  bursts = sums.bursts;
  lower = sums.lower;
  least = sums.least;
}

-- the sums of a tally where a bit takes so many picoseconds
abbrev pub class_sums : ℕ → Tally → ClassSums
class_sums ps_per_bit tally = record {
  higher = ps_per_bit * tally.above;
  equal = ps_per_bit * tally.equal;
  bursts = tally.bursts;
  lower = tally.lower;
  least = unwrap_or tally.least 0;
}
