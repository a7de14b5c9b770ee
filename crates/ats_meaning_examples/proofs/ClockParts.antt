use Rattle.std.proofs.Common.{ℕ, ◌+◌, ◌-◌, ◌*◌, ◌<◌, ◌≤◌, refl, arith}
use Rattle.ats_num.specs.Division.{ceiling}
use Rattle.ats_num.proofs.Ceiling.{ceiling-is}
use Rattle.ats_clock.specs.Rates.{scheduler_for}
use Rattle.ats_meaning_examples.specs.Clocks.{BothAreMeant, ClocksAreMeant, ComparingIsMeant, NumbersAreLeast}

-- What clocks make of rates, bursts and stays, part by part.

comparing : ComparingIsMeant
comparing = record {
  no_worse = λ clock wider. (
    λ is. (is.deviation, is.step),
    λ p. record { deviation = p.0; step = p.1 },
  );
  no_greater = λ c greater. (λ is. (is.rate, is.burst), λ p. record { rate = p.0; burst = p.1 });
}

both : BothAreMeant
both = record {
  unchanged = λ c. (λ is. (is.scheduler, is.output), λ p. record { scheduler = p.0; output = p.1 });
  never_less = λ clock c. (λ is. (is.scheduler, is.output), λ p. record { scheduler = p.0; output = p.1 });
  no_greater = λ clock wider c greater. (
    λ are. (are.scheduler, are.output),
    λ p. record { scheduler = p.0; output = p.1 },
  );
}

-- a difference that is not 0
some_left : (n d : ℕ) → d < n → 1 ≤ n - d
some_left n d below = omega arith

numbers : NumbersAreLeast
numbers = record {
  rate = λ clock c below.
      ceiling-is (1000000 * c.rate) (1000000 - clock.deviation_ppm) (some_left 1000000 clock.deviation_ppm below);
  burst = λ clock c. (
    ceiling ((scheduler_for clock c).rate * clock.step_ps) 1000000000000,
    ceiling-is ((scheduler_for clock c).rate * clock.step_ps) 1000000000000 (omega arith),
    refl,
  );
  rate_behind = λ clock c. ceiling-is (c.rate * (1000000 + clock.deviation_ppm)) 1000000 (omega arith);
  burst_behind = λ clock c. (
    ceiling (c.rate * (1000000 * clock.step_ps + clock.deviation_ppm)) 1000000000000000000,
    ceiling-is (c.rate * (1000000 * clock.step_ps + clock.deviation_ppm)) 1000000000000000000 (omega arith),
    refl,
  );
  stay = λ clock need. (
    ceiling (clock.deviation_ppm * need) 1000000,
    ceiling-is (clock.deviation_ppm * need) 1000000 (omega arith),
    refl,
  );
}

pub clocks_are_meant : ClocksAreMeant
clocks_are_meant = record { comparing = comparing; both = both; numbers = numbers }
