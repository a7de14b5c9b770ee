use Rattle.std.proofs.Common.{refl}
use Rattle.ats_fault_examples.specs.Limits.{CountLimits, FlowLimits, LimitsAreAllowed, NameLimits, RatesOfLinks}
use Rattle.ats_fault_examples.specs.Limits.{ResidenceLimits, StreamLimits, TopologyLimits}

-- Least and greatest numbers by computation.

stream_limits : StreamLimits
stream_limits = record {
  least = refl;
  greatest = refl;
  each_class = refl;
  class_below = refl;
  class_over = refl;
  few_classes = refl;
  rate_below = refl;
  rate_over = refl;
  size_below = refl;
  size_over = refl;
  sizes_back = refl;
  burst_below = refl;
  burst_over = refl;
  no_port = refl;
  many_ports = refl;
  deadline_below = refl;
  deadline_over = refl;
}

flow_limits : FlowLimits
flow_limits = record {
  least = refl;
  greatest = refl;
  size_below = refl;
  size_over = refl;
  no_port = refl;
  many_ports = refl;
}

topology_limits : TopologyLimits
topology_limits = record {
  greatest = refl;
  least = refl;
  processing = refl;
  residence = refl;
  propagation = refl;
  worst_clock = refl;
  deviation = refl;
  step = refl;
  processing_back = refl;
  rate = refl;
}

count_limits : CountLimits
count_limits = record { most = refl; nodes = refl; links = refl }

residence_limits : ResidenceLimits
residence_limits = record { greatest = refl; over = refl }

rates_of_links : RatesOfLinks
rates_of_links = record {
  r10 = refl;
  r100 = refl;
  r1000 = refl;
  r2500 = refl;
  r5000 = refl;
  r10000 = refl;
  r25000 = refl;
  r40000 = refl;
  r50000 = refl;
  r100000 = refl;
}

name_limits : NameLimits
name_limits = record {
  least = refl;
  small = refl;
  capital = refl;
  long = refl;
  empty = refl;
  point = refl;
  others = refl;
}

pub limits_are_allowed : LimitsAreAllowed
limits_are_allowed = record {
  streams = stream_limits;
  flows = flow_limits;
  topology = topology_limits;
  counts = count_limits;
  residence = residence_limits;
  rates = rates_of_links;
  names = name_limits;
}
