use Rattle.std.proofs.Common.{◌≡◌, true, ℕ, [], None, refl}
use Rattle.ats_topology.specs.Faults.{topology_fault}
use Rattle.ats_network.specs.Network.{IsNetwork}
use Rattle.ats_examples.specs.Networks.{line, line_nodes, line_links, line_and_flow, fork, fork_nodes, fork_links}
use Rattle.ats_examples.specs.Networks.{over_two, two_nodes, two_links, over_three, three_nodes, three_links}
use Rattle.ats_examples.specs.Networks.{fork_of_classes, ranged, ranged_nodes, over_two_ranged, two_ranged_nodes}
use Rattle.ats_examples.specs.Networks.{pair, nodes_with, below, fast}
use Rattle.ats_examples.specs.Networks.{line_of_bursts, merged, merged_nodes, merged_links}
use Rattle.ats_examples.proofs.NetworkTest.{network_passes, network_by}

-- The worked networks are networks.

pub line_is : IsNetwork line
line_is = network_by line_nodes line_links line.streams [] refl refl

pub with_flow_is : IsNetwork line_and_flow
with_flow_is = network_by line_nodes line_links line_and_flow.streams line_and_flow.flows refl refl

pub fork_is : IsNetwork fork
fork_is = network_by fork_nodes fork_links fork.streams [] refl refl

pub classes_is : IsNetwork fork_of_classes
classes_is = network_by fork_nodes fork_links fork_of_classes.streams [] refl refl

pub two_is : IsNetwork over_two
two_is = network_by two_nodes two_links over_two.streams [] refl refl

pub three_is : IsNetwork over_three
three_is = network_by three_nodes three_links over_three.streams [] refl refl

pub pair_is : (ns : ℕ) → topology_fault (nodes_with ns) line_links ≡ None → network_passes (pair ns) ≡ true
    → IsNetwork (pair ns)
pair_is ns = network_by (nodes_with ns) line_links (pair ns).streams []

pub ranged_is : (ns : ℕ) → topology_fault (ranged_nodes ns) line_links ≡ None → network_passes (ranged ns) ≡ true
    → IsNetwork (ranged ns)
ranged_is ns = network_by (ranged_nodes ns) line_links (ranged ns).streams []

pub two_ranged_is : IsNetwork over_two_ranged
two_ranged_is = network_by two_ranged_nodes two_links over_two_ranged.streams [] refl refl

pub below_is : IsNetwork below
below_is = network_by line_nodes line_links below.streams [] refl refl

pub fast_is : IsNetwork fast
fast_is = network_by line_nodes line_links fast.streams [] refl refl

pub bursts_is : IsNetwork line_of_bursts
bursts_is = network_by line_nodes line_links line_of_bursts.streams [] refl refl

pub merged_is : IsNetwork merged
merged_is = network_by merged_nodes merged_links merged.streams [] refl refl
