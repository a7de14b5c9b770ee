use Rattle.std.proofs.Common.{[], refl}
use Rattle.ats_network.specs.Network.{IsNetwork}
use Rattle.ats_examples.proofs.NetworkTest.{long_network_by}
use Rattle.ats_tree_examples.proofs.BoundProofs.{bounded}
use Rattle.ats_clock_examples.specs.Trees.{BranchesHaveOwnClocks, clocked_nodes, clocked_tree, clocked_tree_rows}
use Rattle.ats_clock_examples.specs.Trees.{talking_tree, talking_tree_rows, tree_links}

-- A tree with clocks by computation.

tree_is : IsNetwork clocked_tree
tree_is = long_network_by clocked_nodes tree_links clocked_tree.streams [] refl refl

talking_is : IsNetwork talking_tree
talking_is = long_network_by clocked_nodes tree_links talking_tree.streams [] refl refl

pub branches_have_own_clocks : BranchesHaveOwnClocks
branches_have_own_clocks = record {
  bounded = bounded clocked_tree clocked_tree_rows tree_is refl refl refl;
  rates = record {
    from_station = refl;
    to_second = refl;
    to_third = refl;
    to_first_listener = refl;
    to_second_listener = refl;
    to_third_listener = refl;
    in_first = refl;
    in_second = refl;
    in_third = refl;
    at_listener = refl;
    alone_to_third = refl;
    alone_to_listener = refl;
    alone_in_first = refl;
    alone_in_third = refl;
  };
  needs = record {
    in_first = refl;
    higher_in_first = refl;
    in_second = refl;
    in_third = refl;
    higher_in_third = refl;
  };
  talking_bounded = bounded talking_tree talking_tree_rows talking_is refl refl refl;
  talkers = record {
    to_second = refl;
    to_third = refl;
    to_first_listener = refl;
    to_other_listener = refl;
    in_second = refl;
    in_third = refl;
  };
}
