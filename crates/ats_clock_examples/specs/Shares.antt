use Rattle.std.specs.Prelude.{◌≡◌, ℕ, List, [], ◌∷◌, codes, None}
use Rattle.ats_topology.specs.Topology.{topology_of}
use Rattle.ats_topology.specs.declared.link.Link.{Link}
use Rattle.ats_topology.specs.declared.node.Node.{Node}
use Rattle.ats_streams.specs.Stream.{declared_stream}
use Rattle.ats_network.specs.Network.{DeclaredNetwork, declared_network}
use Rattle.ats_certificate.specs.declared.row.Row.{Row}
use Rattle.ats_buffer.specs.Buffer.{buffers_of}
use Rattle.ats_examples.specs.ClockedRuns.{slow_line, slow_line_rows}
use Rattle.ats_examples.specs.Networks.{station}
use Rattle.ats_examples.specs.Rows.{row_with}
use Rattle.ats_tree_examples.specs.Bounds.{IsBounded}
use Rattle.ats_clock_examples.specs.Needs.{clocked_bridge}
use Rattle.ats_clock_examples.specs.Trees.{clocked_tree, clocked_tree_rows, talking_tree, talking_tree_rows}

-- Buffers behind bridges with clocks.

-- a link of 10000 Mb/s, on which a bit takes 100 ps
abbrev pub fast_link : List ℕ → List ℕ → Link
fast_link a b = record { a = a; b = b; mbps = 10000; propagation_ns = 500 }

abbrev pub fast_links : List Link
fast_links =
    fast_link (codes "s1") (codes "b1") ∷ fast_link (codes "b1") (codes "b2") ∷ fast_link (codes "b2") (codes "s2") ∷ []

-- two bridges between two stations: the clock of the first is as bad as may be, that of the second deviates by 100
-- parts in a million and ticks every 8 ns
abbrev pub fast_nodes : List Node
fast_nodes =
    station (codes "s1") ∷ station (codes "s2")
    ∷ clocked_bridge (codes "b1") 1000000 1000 10000000 ∷ clocked_bridge (codes "b2") 1000000 100 8000 ∷ []

-- with a stream from end to end, of 1000 Mb/s and a burst of one frame of 1522 octets
abbrev pub fast_line : DeclaredNetwork
fast_line = declared_network (topology_of fast_nodes fast_links)
    (declared_stream (codes "a") (0 ∷ 2 ∷ 4 ∷ []) (6 ∷ 6 ∷ 6 ∷ []) 1000000000 12336 64 1522 1000000 None ∷ []) []

abbrev pub fast_line_rows : List Row
fast_line_rows =
    row_with 0 6 0 100000000000 12336 0 672 1166400 2733600
    ∷ row_with 2 6 0 100200200400 32358 0 672 3168600 4735800
    ∷ row_with 4 6 0 100220242600 32376 0 672 3170400 3737600
    ∷ []

-- over one bridge the last port goes by what the station sends; over two the second goes by this, and the last by what
-- the first bridge lets through, neither by what the stream declares nor by what comes to the port itself
pub record BuffersOfLines : Type 0 where
  pub slow : buffers_of slow_line slow_line_rows ≡ 13569 ∷ 14736 ∷ []
  pub fast_bounded : IsBounded fast_line fast_line_rows
  pub fast : buffers_of fast_line fast_line_rows ≡ 13569 ∷ 16738 ∷ 38777 ∷ []

-- in the tree a port of a branch goes by the port that leads to its bridge, whichever stands in front of it among the
-- stream's ports; and where a bridge talks, each of its ports goes by what the bridge lets through there
pub record BuffersOfTrees : Type 0 where
  pub clocked : buffers_of clocked_tree clocked_tree_rows
      ≡ 13776 ∷ 2071 ∷ 14993 ∷ 15200 ∷ 2142 ∷ 14779 ∷ 14779 ∷ 15153 ∷ 2142 ∷ []
  pub talking : buffers_of talking_tree talking_tree_rows ≡ 13570 ∷ 13570 ∷ 14777 ∷ 14737 ∷ []

pub record SharesAreOfThePortBefore : Type 0 where
  pub lines : BuffersOfLines
  pub trees : BuffersOfTrees
