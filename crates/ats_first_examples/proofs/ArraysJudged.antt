use Rattle.std.proofs.Common.{refl}
use Rattle.ats_first_examples.specs.Arrays.{ArraysAreFirst, ArraysAreJudged, ArraysHaveLimits, EmptyAreTaken}
use Rattle.ats_first_examples.specs.Arrays.{TopIsFirst}

-- Arrays by computation.

top_is_first : TopIsFirst
top_is_first = record {
  no_format = refl;
  unknown = refl;
  format = refl;
  format_below = refl;
  format_over = refl;
  station = refl;
  bridge = refl;
  link = refl;
  stream = refl;
  flow = refl;
  tables = refl;
  no_table = refl;
  one_table = refl;
}

arrays_are_first : ArraysAreFirst
arrays_are_first = record {
  stations = refl;
  too_many_nodes = refl;
  bridges = refl;
  too_many_links = refl;
  links = refl;
  too_many_streams = refl;
  streams = refl;
  too_many_flows = refl;
}

arrays_have_limits : ArraysHaveLimits
arrays_have_limits = record {
  most_stations = refl;
  stations = refl;
  most_bridges = refl;
  bridges = refl;
  most_nodes = refl;
  nodes = refl;
  most_links = refl;
  links = refl;
  most_streams = refl;
  streams = refl;
  most_flows = refl;
  flows = refl;
  most_for_ports = refl;
  over_for_ports = refl;
  beside_streams = refl;
  most_beside = refl;
  flows_for_ports = refl;
  beside_flows = refl;
  most_flows_for_ports = refl;
  without_links = refl;
}

empty_are_taken : EmptyAreTaken
empty_are_taken = record { tables = refl; each = refl; declared = refl }

pub arrays_are_judged : ArraysAreJudged
arrays_are_judged = record {
  top = top_is_first;
  first = arrays_are_first;
  limits = arrays_have_limits;
  empty = empty_are_taken;
}
