use Rattle.std.proofs.Common.{◌≡◌, None, drop}
use Rattle.std.specs.Prelude.{fold}
use Rattle.ats_bound.specs.Reason.{overload}
use Rattle.ats_admission_law.specs.Lowest.{found_at, lower_of, lowest_found}
use Rattle.ats_admission_law.specs.Near.{overstay_at}
use Rattle.ats_admission_state.specs.Kept.{AreLeastBeside}
use Rattle.ats_admission_state.specs.Spares.{KeepSpares}
use Rattle.ats_admission_state.proofs.walks.judge_path.Given as goal

-- from what was found so far, the ports to come give what the path gives; the bounds of the ports so far are made anew,
-- unless an overload was found; spares are kept
abbrev pub invariant-loop-hop : goal.invariant-loop-hop
invariant-loop-hop l = record {
  loads : fold (λ best port. lower_of best port (found_at (overload l.network) l.network port))
      l.found.load (drop l.hop l.path) ≡ lowest_found (overload l.network) l.network l.path;
  stays : l.found.load ≡ None
      → fold (λ best port. lower_of best port (found_at (overstay_at l.network) l.network port))
      l.found.stay (drop l.hop l.path) ≡ lowest_found (overstay_at l.network) l.network l.path;
  beside : AreLeastBeside l.network l.path l.bounds;
  left : l.found.load ≡ None → AreLeastBeside l.network (drop l.hop l.path) l.bounds;
  spares : KeepSpares l.users l.initial.bounds l.bounds l.initial.spares l.spares;
}
