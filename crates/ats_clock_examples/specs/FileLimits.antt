use Rattle.std.specs.Prelude.{◌≡◌, ℕ, ◌+◌, List, [], ◌∷◌, Some, None}
use Rattle.ats_topology.specs.Topology.{DeclaredTopology}
use Rattle.ats_streams.specs.declared.branch.Branch.{Branch}
use Rattle.ats_streams.specs.declared.fault.StreamFault.TheVariants.{Limit}
use Rattle.ats_network_file.specs.Senders.{rate_fault}
use Rattle.ats_tree_examples.specs.Networks.{branch}
use Rattle.ats_clock_examples.specs.Limits.{both_loose, loose_line, loose_two, paced, two_ways}

-- Which rates and bursts are the greatest that a file may declare of a stream over bridges with clocks.

-- this is the greatest rate of such a stream, with a burst of one frame
pub record IsMostRateOfFile (topology : DeclaredTopology) (ports : List ℕ) (branches : List Branch) (rate : ℕ)
    : Type 0 where
  pub most : rate_fault topology (paced ports branches rate 672) ≡ None
  pub over : rate_fault topology (paced ports branches (rate + 1) 672) ≡ Some Limit

-- this is the greatest burst, with a rate of one bit per second
pub record IsMostBurstOfFile (topology : DeclaredTopology) (ports : List ℕ) (branches : List Branch) (burst : ℕ)
    : Type 0 where
  pub most : rate_fault topology (paced ports branches 1 burst) ≡ None
  pub over : rate_fault topology (paced ports branches 1 (burst + 1)) ≡ Some Limit

-- a talker with a clock is judged by what it lets through, which may be the limit itself; where a stream ends at a
-- bridge, by this one's scheduler and not by what it would let through; and where each of two branches has a bridge
-- with a clock, each for itself
pub record FilesKeepLimits : Type 0 where
  pub rate_of_talker : IsMostRateOfFile loose_line (2 ∷ []) [] 99900099900
  pub burst_of_talker : IsMostBurstOfFile loose_line (2 ∷ []) [] 999999999
  pub rate_of_ending : IsMostRateOfFile loose_two (0 ∷ 2 ∷ []) [] 99700399600
  pub burst_of_ending : IsMostBurstOfFile loose_two (0 ∷ 2 ∷ []) [] 999999997
  pub rate_of_each : IsMostRateOfFile both_loose two_ways (branch 3 0 1 ∷ []) 99800199800
  pub burst_of_each : IsMostBurstOfFile both_loose two_ways (branch 3 0 1 ∷ []) 999999998
