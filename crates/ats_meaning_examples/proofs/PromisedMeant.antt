use Rattle.ats_meaning_examples.specs.Promised.{ArrivalsAreInTime, PromisesAreMeant, RunsAreLegalByParts}

-- Of which runs something is promised, and what arrives in time, part by part.

runs_are_legal : RunsAreLegalByParts
runs_are_legal judge network run = (
  λ is. (is.in_order, is.journeys, is.ports, is.links, is.groups, is.flows),
  λ p. record { in_order = p.0; journeys = p.1; ports = p.2; links = p.3; groups = p.4; flows = p.5 },
)

arrivals_are_in_time : ArrivalsAreInTime
arrivals_are_in_time = record {
  sink = λ rows stream release route at. (λ is. (is.sum, is.deadline), λ p. record { sum = p.0; deadline = p.1 });
  discard = λ rows stream release route is. is.sum;
}

pub promises_are_meant : PromisesAreMeant
promises_are_meant = record { runs = runs_are_legal; arrivals = arrivals_are_in_time }
