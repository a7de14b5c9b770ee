use Rattle.std.proofs.Common.{◌≡◌, ◌≢◌, true, ℕ, [], Some, None, refl, ap, arith}
use Rattle.ats_topology.specs.Faults.{topology_fault}
use Rattle.ats_network.specs.Network.{IsNetwork}
use Rattle.ats_tally.specs.declared.reason.Reason.{Reason}
use Rattle.ats_tally.specs.declared.reason.Reason.TheVariants.{Residence}
use Rattle.ats_bound.specs.Reason.{reason_of}
use Rattle.ats_examples.specs.ClockedRuns.{slow_line_rows}
use Rattle.ats_examples.specs.Networks.{line_links}
use Rattle.ats_examples.proofs.NetworkTest.{network_by, network_passes}
use Rattle.ats_tree_examples.specs.Bounds.{HasReason}
use Rattle.ats_tree_examples.proofs.BoundProofs.{bounded, reason_by}
use Rattle.ats_clock_examples.specs.Needs.{NeedsAreRounded, staying, staying_nodes}

-- Needs of residence by computation.

staying_is : (residence_ns deviation_ppm step_ps : ℕ)
    → topology_fault (staying_nodes residence_ns deviation_ppm step_ps) line_links ≡ None
    → network_passes (staying residence_ns deviation_ppm step_ps) ≡ true
    → IsNetwork (staying residence_ns deviation_ppm step_ps)
staying_is residence_ns deviation_ppm step_ps =
    network_by (staying_nodes residence_ns deviation_ppm step_ps) line_links
    (staying residence_ns deviation_ppm step_ps).streams []

-- the need in a reason
abbrev need_in : Reason → ℕ
need_in (Residence port class need) = need
need_in reason = 0

short_by : (residence_ns deviation_ppm step_ps need : ℕ) → IsNetwork (staying residence_ns deviation_ppm step_ps)
    → reason_of (staying residence_ns deviation_ppm step_ps) ≡ Some (Residence 0 6 need) → need ≢ 11664000
    → HasReason (staying residence_ns deviation_ppm step_ps) (Residence 0 6 need) (Residence 0 6 11664000)
short_by residence_ns deviation_ppm step_ps need rules given differ =
    reason_by (staying residence_ns deviation_ppm step_ps) (Residence 0 6 need) (Residence 0 6 11664000) rules given
    (λ same. differ (ap need_in same))

pub needs_are_rounded : NeedsAreRounded
needs_are_rounded = record {
  needs = record { both = refl; deviation = refl; step = refl; neither = refl; whole = refl };
  stays = record {
    short = short_by 11673 100 8000 11673167 (staying_is 11673 100 8000 refl refl) refl (λ same. omega (arith, same));
    refused = refl;
    fits = bounded (staying 11674 100 8000) slow_line_rows (staying_is 11674 100 8000 refl refl) refl refl refl;
    free = refl;
    short_without_step =
        short_by 11665 100 0 11665167 (staying_is 11665 100 0 refl refl) refl (λ same. omega (arith, same));
    network_without_step = staying_is 11666 100 0 refl refl;
    free_without_step = refl;
    short_of_step =
        short_by 11671 0 8000 11672000 (staying_is 11671 0 8000 refl refl) refl (λ same. omega (arith, same));
    network_of_step = staying_is 11672 0 8000 refl refl;
    free_of_step = refl;
  };
}
