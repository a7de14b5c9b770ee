use Rattle.std.proofs.Common.{refl}
use Rattle.ats_first_examples.specs.Topologies.{EachSideIsNamed, FaultsBefore, FaultsBehind, FirstOfAKind}
use Rattle.ats_first_examples.specs.Topologies.{TopologyFaultsAreFirst}

-- Faults of nodes and links by computation.

faults_before : FaultsBefore
faults_before = record {
  all = refl;
  seven = refl;
  six = refl;
  five = refl;
  four = refl;
  three = refl;
  two = refl;
  one = refl;
  none = refl;
}

faults_behind : FaultsBehind
faults_behind = record {
  all = refl;
  seven = refl;
  six = refl;
  five = refl;
  four = refl;
  three = refl;
  two = refl;
  one = refl;
}

first_of_a_kind : FirstOfAKind
first_of_a_kind = record {
  nodes = refl;
  links = refl;
  loops = refl;
  unknown = refl;
  stations = refl;
  rates = refl;
  processing = refl;
}

each_side_is_named : EachSideIsNamed
each_side_is_named = record {
  other_kind = refl;
  same_way = refl;
  no_first_end = refl;
  no_second_end = refl;
  no_end = refl;
  two_links = refl;
  no_link = refl;
  bridge_of_one = refl;
  bridge_of_none = refl;
  without_nodes = refl;
}

pub topology_faults_are_first : TopologyFaultsAreFirst
topology_faults_are_first = record {
  before = faults_before;
  behind = faults_behind;
  of_a_kind = first_of_a_kind;
  each_side = each_side_is_named;
}
