use Rattle.std.specs.Prelude.{◌≡◌, ℕ, List, [], ◌∷◌, codes, Some, None}
use Rattle.ats_clock.specs.Clock.{declared_clock}
use Rattle.ats_topology.specs.Topology.{topology_of}
use Rattle.ats_topology.specs.declared.node.Kind.TheVariants.{Bridge}
use Rattle.ats_topology.specs.declared.node.Node.{Node}
use Rattle.ats_network.specs.Network.{DeclaredNetwork, IsNetwork, declared_network}
use Rattle.ats_certificate.specs.Certificate.{need_by}
use Rattle.ats_tally.specs.declared.reason.Reason.TheVariants.{Residence}
use Rattle.ats_bound.specs.Reason.{reason_of}
use Rattle.ats_checker.specs.Refusal.{refusal_of}
use Rattle.ats_checker.specs.declared.refusal.Refusal.TheVariants.{Network}
use Rattle.ats_examples.specs.ClockedRuns.{slow_line_rows}
use Rattle.ats_examples.specs.Networks.{line_links, station, stream}
use Rattle.ats_tree_examples.specs.Bounds.{HasReason, IsBounded}

-- How long a frame may have to stay behind a port, by the clock there.

-- a bridge with a processing time of 1000 ns, this maximum residence time in nanoseconds, and a clock of this deviation
-- in parts in a million and this step in picoseconds
abbrev pub clocked_bridge : List ℕ → ℕ → ℕ → ℕ → Node
clocked_bridge name residence_ns deviation_ppm step_ps =
    record { name = name; kind = Bridge 1000 1000 residence_ns deviation_ppm step_ps }

-- the line over such a bridge, with its stream
abbrev pub staying_nodes : ℕ → ℕ → ℕ → List Node
staying_nodes residence_ns deviation_ppm step_ps =
    station (codes "s1") ∷ station (codes "s2")
    ∷ clocked_bridge (codes "b1") residence_ns deviation_ppm step_ps ∷ []

abbrev pub staying : ℕ → ℕ → ℕ → DeclaredNetwork
staying residence_ns deviation_ppm step_ps =
    declared_network (topology_of (staying_nodes residence_ns deviation_ppm step_ps) line_links)
    (stream (codes "a") (0 ∷ 2 ∷ []) ∷ []) []

-- by a clock of 100 parts in a million with a step of 8 ns a need of 11664000 ps is one of 1166.4 ps more, rounded up,
-- and of the step, which does not deviate; with either alone; with neither; and where the deviation of a need is whole
pub record NeedsAreWorked : Type 0 where
  pub both : need_by (declared_clock 100 8000) 11664000 ≡ 11673167
  pub deviation : need_by (declared_clock 100 0) 11664000 ≡ 11665167
  pub step : need_by (declared_clock 0 8000) 11664000 ≡ 11672000
  pub neither : need_by (declared_clock 0 0) 11664000 ≡ 11664000
  pub whole : need_by (declared_clock 100 8000) 11670000 ≡ 11679167

-- the frames of the line may have to wait so long at the station's port: with each of these clocks the reason against
-- a residence 1 ns shorter than just fits is this need, and not that of true time; and so is the need for which the
-- rows are refused
pub record StaysAreJudged : Type 0 where
  pub short : HasReason (staying 11673 100 8000) (Residence 0 6 11673167) (Residence 0 6 11664000)
  pub refused : refusal_of (staying 11673 100 8000) slow_line_rows ≡ Some (Network (Residence 0 6 11673167))
  pub fits : IsBounded (staying 11674 100 8000) slow_line_rows
  pub free : reason_of (staying 11674 100 8000) ≡ None
  pub short_without_step : HasReason (staying 11665 100 0) (Residence 0 6 11665167) (Residence 0 6 11664000)
  pub network_without_step : IsNetwork (staying 11666 100 0)
  pub free_without_step : reason_of (staying 11666 100 0) ≡ None
  pub short_of_step : HasReason (staying 11671 0 8000) (Residence 0 6 11672000) (Residence 0 6 11664000)
  pub network_of_step : IsNetwork (staying 11672 0 8000)
  pub free_of_step : reason_of (staying 11672 0 8000) ≡ None

pub record NeedsAreRounded : Type 0 where
  pub needs : NeedsAreWorked
  pub stays : StaysAreJudged
