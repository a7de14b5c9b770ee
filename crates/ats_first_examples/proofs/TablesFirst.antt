use Rattle.std.proofs.Common.{refl}
use Rattle.ats_first_examples.specs.Tables.{BridgeTablesAreJudged, ClockedTablesAreJudged, FlowTablesAreJudged}
use Rattle.ats_first_examples.specs.Tables.{LinkTablesAreJudged}
use Rattle.ats_first_examples.specs.Tables.{RoutesAreWrong, StreamKeysAreMissing, StreamKindsAreWrong, TablesAreFirst}

-- Tables by computation.

stream_keys_are_missing : StreamKeysAreMissing
stream_keys_are_missing = record {
  name = refl;
  path = refl;
  class = refl;
  rate = refl;
  burst = refl;
  least = refl;
  greatest = refl;
  vlan = refl;
  address = refl;
  from = refl;
  to = refl;
  behind_ends = refl;
}

stream_kinds_are_wrong : StreamKindsAreWrong
stream_kinds_are_wrong = record {
  unknown = refl;
  name = refl;
  path = refl;
  class = refl;
  rate = refl;
  burst = refl;
  least = refl;
  greatest = refl;
  deadline = refl;
  address = refl;
  vlan = refl;
}

routes_are_wrong : RoutesAreWrong
routes_are_wrong = record {
  path = refl;
  right_path = refl;
  from = refl;
  to = refl;
  class = refl;
  classes = refl;
  classes_alone = refl;
}

link_tables_are_judged : LinkTablesAreJudged
link_tables_are_judged = record {
  no_name = refl;
  unknown_at_station = refl;
  wrong_name = refl;
  no_end = refl;
  no_other_end = refl;
  no_rate = refl;
  no_time = refl;
  unknown = refl;
  end = refl;
  other_end = refl;
  rate = refl;
  time = refl;
}

bridge_tables_are_judged : BridgeTablesAreJudged
bridge_tables_are_judged = record {
  no_name = refl;
  no_least = refl;
  no_greatest = refl;
  no_residence = refl;
  unknown = refl;
  of_format_one = refl;
  name = refl;
  least = refl;
  greatest = refl;
  residence = refl;
  no_time = refl;
  no_residence_there = refl;
  of_format_two = refl;
  name_there = refl;
  time = refl;
  residence_there = refl;
}

clocked_tables_are_judged : ClockedTablesAreJudged
clocked_tables_are_judged = record {
  no_residence = refl;
  unknown = refl;
  residence = refl;
  deviation = refl;
  step = refl;
  none = refl;
  deviation_alone = refl;
  step_alone = refl;
  both = refl;
  greatest = refl;
  too_great = refl;
  of_format_two = refl;
  step_of_format_two = refl;
}

flow_tables_are_judged : FlowTablesAreJudged
flow_tables_are_judged = record {
  no_name = refl;
  no_path = refl;
  no_size = refl;
  no_from = refl;
  no_to = refl;
  unknown = refl;
  of_streams = refl;
  name = refl;
  path = refl;
  size = refl;
}

pub tables_are_first : TablesAreFirst
tables_are_first = record {
  missing = stream_keys_are_missing;
  wrong = stream_kinds_are_wrong;
  routes = routes_are_wrong;
  links = link_tables_are_judged;
  bridges = bridge_tables_are_judged;
  clocked = clocked_tables_are_judged;
  flows = flow_tables_are_judged;
}
