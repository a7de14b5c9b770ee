-- Of which runs something is promised.
use Rattle.ats_answer_law.specs.PromisedRuns.{AtsRunsAreMeant, LrqRunsAreMeant, PromisedRunsAreMeant}

lrq_check : LrqRunsAreMeant
lrq_check = record {
  legal = λ network run. (λ is. is, λ is. is);
  keeps = λ network run legal node. (λ is. is, λ is. is);
  station_keeps = λ network run node. (λ is. is, λ is. is);
  sound = λ network rows. (
    λ is. (is.served, is.contained),
    λ each. record { served = each.0; contained = each.1 },
  );
  in_time = λ network rows. (λ each. each, λ each. each);
  from_stations = λ network rows. (
    λ is. (is.served, is.contained),
    λ each. record { served = each.0; contained = each.1 },
  );
  in_time_from_stations = λ network rows. (λ each. each, λ each. each);
}

check : AtsRunsAreMeant
check = record {
  legal = λ network run. (λ is. is, λ is. is);
  keeps = λ network run legal node. (λ is. is, λ is. is);
  station_keeps = λ network run node. (λ is. is, λ is. is);
  from_stations = λ network rows. (
    λ is. (is.served, is.contained),
    λ each. record { served = each.0; contained = each.1 },
  );
  in_time_from_stations = λ network rows. (λ each. each, λ each. each);
}

pub promised_runs_are_meant : PromisedRunsAreMeant
promised_runs_are_meant = record { check = check; lrq_check = lrq_check }
