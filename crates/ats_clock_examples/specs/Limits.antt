use Rattle.std.specs.Prelude.{◌≡◌, ℕ, ◌+◌, List, [], ◌∷◌, ◌++◌, length, codes, Some, None}
use Rattle.ats_topology.specs.Topology.{DeclaredTopology, topology_of}
use Rattle.ats_topology.specs.declared.node.Node.{Node}
use Rattle.ats_streams.specs.Stream.{DeclaredStream, branching_stream, classes_for}
use Rattle.ats_streams.specs.declared.branch.Branch.{Branch}
use Rattle.ats_network.specs.Network.{DeclaredNetwork, IsNetwork, long_network}
use Rattle.ats_network.specs.Pushes.{stream_push_fault}
use Rattle.ats_network.specs.Rates.{IsRated}
use Rattle.ats_network.specs.Sender.{stream_sender}
use Rattle.ats_network.specs.declared.fault.PushFault.TheVariants.{Limit}
use Rattle.ats_examples.specs.Networks.{bridge, line_links, station, two_links}
use Rattle.ats_tree_examples.specs.Networks.{branch}
use Rattle.ats_clock_examples.specs.Needs.{clocked_bridge}
use Rattle.ats_clock_examples.specs.Trees.{tree_links, tree_stations}

-- Which rates and bursts are the greatest that a stream may have over bridges with clocks.

-- a bridge whose clock is as bad as may be: it deviates by 1000 parts in a million, and has a step of 10 us
abbrev pub loose_bridge : List ℕ → Node
loose_bridge name = clocked_bridge name 1000000 1000 10000000

-- a stream of 64 octets over these ports, with these branches, rate and burst
abbrev pub paced : List ℕ → List Branch → ℕ → ℕ → DeclaredStream
paced ports branches rate burst =
    branching_stream (codes "w") ports branches (classes_for (length ports) (1 ∷ [])) rate burst 64 64 1000000 None

-- this is the greatest rate of such a stream, with a burst of one frame
pub record IsMostRate (topology : DeclaredTopology) (ports : List ℕ) (branches : List Branch) (rate : ℕ)
    : Type 0 where
  pub most : stream_push_fault (long_network topology [] []) (paced ports branches rate 672) ≡ None
  pub over : stream_push_fault (long_network topology [] []) (paced ports branches (rate + 1) 672) ≡ Some Limit

-- this is the greatest burst, with a rate of one bit per second
pub record IsMostBurst (topology : DeclaredTopology) (ports : List ℕ) (branches : List Branch) (burst : ℕ)
    : Type 0 where
  pub most : stream_push_fault (long_network topology [] []) (paced ports branches 1 burst) ≡ None
  pub over : stream_push_fault (long_network topology [] []) (paced ports branches 1 (burst + 1)) ≡ Some Limit

-- the line over a loose bridge, and over two of them
abbrev pub loose_nodes : List Node
loose_nodes = station (codes "s1") ∷ station (codes "s2") ∷ loose_bridge (codes "b1") ∷ []

abbrev pub loose_line : DeclaredTopology
loose_line = topology_of loose_nodes line_links

abbrev pub loose_two : DeclaredTopology
loose_two = topology_of (loose_nodes ++ loose_bridge (codes "b2") ∷ []) two_links

-- the line with a stream of this rate that begins at the bridge
abbrev pub begun : ℕ → DeclaredNetwork
begun rate = long_network loose_line (paced (2 ∷ []) [] rate 672 ∷ []) []

-- where a stream begins at the bridge, the bridge's clock makes 100000000000 bits per second of the greatest rate, and
-- a bit more of a burst. A scheduler by this clock for what the stream declares would have 100000100000, but there is
-- none: a bridge does not judge its own frames
pub record TalkersAreJudged : Type 0 where
  pub rate : IsMostRate loose_line (2 ∷ []) [] 99900099900
  pub burst : IsMostBurst loose_line (2 ∷ []) [] 999999999
  pub network : IsNetwork (begun 99900099900)
  pub not_rated : ¬ IsRated loose_line (stream_sender (paced (2 ∷ []) [] 99900099901 672)) 2

-- a burst has two bits more behind each bridge, and one where it ends there. What begins at the first and goes on over
-- the second, or ends there, is judged by both
pub record LaterHopsAreJudged : Type 0 where
  pub rate : IsMostRate loose_two (0 ∷ 2 ∷ 4 ∷ []) [] 99600798800
  pub burst : IsMostBurst loose_two (0 ∷ 2 ∷ 4 ∷ []) [] 999999996
  pub rate_of_ending : IsMostRate loose_two (0 ∷ 2 ∷ []) [] 99700399600
  pub burst_of_ending : IsMostBurst loose_two (0 ∷ 2 ∷ []) [] 999999997
  pub rate_of_talker : IsMostRate loose_two (2 ∷ 4 ∷ []) [] 99700499300
  pub burst_of_talker : IsMostBurst loose_two (2 ∷ 4 ∷ []) [] 999999997
  pub rate_of_both : IsMostRate loose_two (2 ∷ []) [] 99800199800
  pub burst_of_both : IsMostBurst loose_two (2 ∷ []) [] 999999998

-- the tree where the second and the third bridge are these
abbrev pub tree_over : Node → Node → DeclaredTopology
tree_over second third = topology_of (tree_stations ++ bridge (codes "b1") 1000000 ∷ second ∷ third ∷ []) tree_links

-- where just one of them is loose
abbrev pub second_loose : DeclaredTopology
second_loose = tree_over (loose_bridge (codes "b2")) (bridge (codes "b3") 1000000)

abbrev pub third_loose : DeclaredTopology
third_loose = tree_over (bridge (codes "b2") 1000000) (loose_bridge (codes "b3"))

-- and where both are
abbrev pub both_loose : DeclaredTopology
both_loose = tree_over (loose_bridge (codes "b2")) (loose_bridge (codes "b3"))

-- ports from s1 to s2 and s4, and to s2, s4 and s3
abbrev pub two_ways : List ℕ
two_ways = 0 ∷ 2 ∷ 6 ∷ 4 ∷ 10 ∷ []

abbrev pub three_ways : List ℕ
three_ways = 0 ∷ 2 ∷ 6 ∷ 4 ∷ 10 ∷ 8 ∷ []

-- a loose bridge on the trunk alone, on the branch alone, and on one branch that is neither the trunk nor the last each
-- leave a stream the same; and so do two of them, of which each is on one branch
pub record BranchesAreJudged : Type 0 where
  pub rate_of_trunk : IsMostRate second_loose two_ways (branch 3 0 1 ∷ []) 99800199800
  pub burst_of_trunk : IsMostBurst second_loose two_ways (branch 3 0 1 ∷ []) 999999998
  pub rate_of_branch : IsMostRate third_loose two_ways (branch 3 0 1 ∷ []) 99800199800
  pub burst_of_branch : IsMostBurst third_loose two_ways (branch 3 0 1 ∷ []) 999999998
  pub rate_between : IsMostRate third_loose three_ways (branch 3 0 1 ∷ branch 5 0 2 ∷ []) 99800199800
  pub burst_between : IsMostBurst third_loose three_ways (branch 3 0 1 ∷ branch 5 0 2 ∷ []) 999999998
  pub rate_of_each : IsMostRate both_loose two_ways (branch 3 0 1 ∷ []) 99800199800
  pub burst_of_each : IsMostBurst both_loose two_ways (branch 3 0 1 ∷ []) 999999998

pub record LimitsAreAtEachHop : Type 0 where
  pub talkers : TalkersAreJudged
  pub hops : LaterHopsAreJudged
  pub branches : BranchesAreJudged
