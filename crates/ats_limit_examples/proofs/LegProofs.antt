use Rattle.std.proofs.Common.{refl}
use Rattle.ats_limit_examples.specs.Legs.{FramesPortsAreCounted, LegsAreLimited, PortsAreCounted, RoutesAreLimited}
use Rattle.ats_limit_examples.specs.Legs.{ShortRoutesAreLimited}

-- Limits by computation.

routes_are_limited : RoutesAreLimited
routes_are_limited = record {
  longest = refl;
  over = refl;
  two_longest = refl;
  two_over = refl;
  trunk_over = refl;
  classes = refl;
  of_trunk = refl;
  of_routes = refl;
  routes = refl;
}

short_routes_are_limited : ShortRoutesAreLimited
short_routes_are_limited = record {
  longest = refl;
  over = refl;
  trunk_over = refl;
  else_before = refl;
  of_flow = refl;
  of_flow_over = refl;
  flow_long = refl;
  flow_long_over = refl;
  long = refl;
  long_over = refl;
}

ports_are_counted : PortsAreCounted
ports_are_counted = record {
  together = refl;
  most = refl;
  over = refl;
  long_most = refl;
  long_over = refl;
  branches_most = refl;
  branches_over = refl;
  last = refl;
  past = refl;
}

frames_ports_are_counted : FramesPortsAreCounted
frames_ports_are_counted = record {
  of_stream = refl;
  of_flow = refl;
  together = refl;
}

pub legs_are_limited : LegsAreLimited
legs_are_limited = record {
  routes = routes_are_limited;
  short = short_routes_are_limited;
  ports = ports_are_counted;
  frames = frames_ports_are_counted;
}
