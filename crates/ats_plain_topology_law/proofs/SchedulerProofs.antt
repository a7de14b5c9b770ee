use Rattle.std.proofs.Common.{refl}
use Rattle.ats_plain_topology_law.specs.Schedulers.{IdealIsGiven, RatesAreRounded, SchedulersAreGiven}

-- What the ideal clock is, and what schedulers have by any clock.

ideal : IdealIsGiven
ideal = record { deviation = refl; step = refl }

rates : RatesAreRounded
rates = record {
  rate_is = λ rate burst. refl;
  burst_is = λ rate burst. refl;
  rate_for = λ clock arriving. refl;
  burst_for = λ clock arriving. refl;
  rate_of = λ clock scheduler. refl;
  burst_of = λ clock scheduler. refl;
}

pub schedulers_are_given : SchedulersAreGiven
schedulers_are_given = record { ideal = ideal; rates = rates }
