use Rattle.std.specs.Prelude.{codes}
use Rattle.ats_topology.specs.Topology.{HasIdealClocks}
use Rattle.ats_examples.specs.ClockedRuns.{slow_line}
use Rattle.ats_examples.specs.Networks.{bridge, line, ranged_line}
use Rattle.ats_examples.specs.OwnFrames.{own}
use Rattle.ats_examples.specs.SlowClocks.{slow_bridge}
use Rattle.ats_clock_examples.specs.Needs.{staying}
use Rattle.ats_clock_examples.specs.TwoClocks.{side_by_side}

-- Which clocks are ideal: those of stations, and of bridges that declare neither a deviation nor a step, whatever else
-- they declare, and whatever frames begin or end there. None is that deviates or steps, be it by one of these alone;
-- nor are all, where that of one of two bridges is not.
pub record IdealClocksAreShown : Type 0 where
  pub of_line : HasIdealClocks line.topology
  pub of_spread : HasIdealClocks ranged_line.topology
  pub of_talker : HasIdealClocks own.topology
  pub not_slow : ¬ HasIdealClocks slow_line.topology
  pub not_deviating : ¬ HasIdealClocks (staying 1000000 100 0).topology
  pub not_ticking : ¬ HasIdealClocks (staying 1000000 0 8000).topology
  pub not_first : ¬ HasIdealClocks (side_by_side (slow_bridge (codes "b1")) (bridge (codes "b2") 1000000)).topology
  pub not_second : ¬ HasIdealClocks (side_by_side (bridge (codes "b1") 1000000) (slow_bridge (codes "b2"))).topology
