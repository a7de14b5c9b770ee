use Rattle.std.proofs.Common.{◌≤◌, refl, arith}
use Rattle.ats_examples.specs.Networks.{two_links}
use Rattle.ats_examples.specs.SlowClocks.{SlowClocks, over_slow, slow_nodes}
use Rattle.ats_examples.proofs.NetworkTest.{network_by}

-- Rates and bursts by computation.

too_fast : 100010001001 ≤ 100000000000 → ⊥
too_fast h = omega arith

pub slow_clocks : SlowClocks
slow_clocks = record {
  network = network_by slow_nodes two_links over_slow.streams over_slow.flows refl refl;
  from_station = refl;
  first_scheduler = refl;
  behind_first = refl;
  second_scheduler = refl;
  behind_second = refl;
  at_station = refl;
  from_bridge = refl;
  of_flow = refl;
  rated = record {
    seen = record { rate = record { positive = omega arith; within = omega arith }; burst = omega arith };
    scheduled = record { rate = record { positive = omega arith; within = omega arith }; burst = omega arith };
  };
  not_rated = λ rated. too_fast rated.scheduled.rate.within;
}
