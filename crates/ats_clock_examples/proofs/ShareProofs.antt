use Rattle.std.proofs.Common.{[], refl}
use Rattle.ats_network.specs.Network.{IsNetwork}
use Rattle.ats_examples.proofs.NetworkTest.{network_by}
use Rattle.ats_tree_examples.proofs.BoundProofs.{bounded}
use Rattle.ats_clock_examples.specs.Shares.{SharesAreOfThePortBefore, fast_line, fast_line_rows, fast_links, fast_nodes}

-- Buffers by computation.

line_is : IsNetwork fast_line
line_is = network_by fast_nodes fast_links fast_line.streams [] refl refl

pub shares_are_of_the_port_before : SharesAreOfThePortBefore
shares_are_of_the_port_before = record {
  lines = record {
    slow = refl;
    fast_bounded = bounded fast_line fast_line_rows line_is refl refl refl;
    fast = refl;
  };
  trees = record { clocked = refl; talking = refl };
}
