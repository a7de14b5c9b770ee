use Rattle.std.proofs.Common.{refl}
use Rattle.ats_first_examples.specs.Several.{ListenersAreRead, PathsAreRead, RoutesAreRead, RoutesGoTogether}
use Rattle.ats_first_examples.specs.Several.{SeveralAreRead}

-- Routes of tables by computation.

listeners_are_read : ListenersAreRead
listeners_are_read = record {
  one = refl;
  one_of_many = refl;
  two = refl;
  none = refl;
  no_name = refl;
  number = refl;
  older = refl;
  older_array = refl;
}

paths_are_read : PathsAreRead
paths_are_read = record {
  one = refl;
  two = refl;
  none = refl;
  flat = refl;
  short = refl;
  no_name = refl;
  beside_path = refl;
  beside_end = refl;
  path_beside = refl;
}

routes_are_read : RoutesAreRead
routes_are_read = record {
  by_path = refl;
  by_paths = refl;
  by_ends = refl;
  older = refl;
}

routes_go_together : RoutesGoTogether
routes_go_together = record {
  none = refl;
  paths_and_from = refl;
  paths_and_to = refl;
  paths_and_ends = refl;
  path_and_paths = refl;
  all = refl;
  paths_first = refl;
  from_first = refl;
  older_paths = refl;
  older_both = refl;
  older_array = refl;
  in_one_paths = refl;
  in_one_both = refl;
  in_one_all = refl;
  in_one_array = refl;
  flow_array = refl;
  flow_paths = refl;
  flow_both = refl;
}

pub several_are_read : SeveralAreRead
several_are_read = record {
  listeners = listeners_are_read;
  paths = paths_are_read;
  routes = routes_are_read;
  together = routes_go_together;
}
