use Rattle.std.proofs.Common.{take}
use Rattle.ats_admission_state.specs.Judging.{FindsFirstLate}
use Rattle.ats_admission_state.specs.Spares.{AreSpares}
use Rattle.ats_admission_state.proofs.late.first_near.Given as goal

-- the first late one of those that have one of the ports so far
abbrev pub invariant-loop-hop : goal.invariant-loop-hop
invariant-loop-hop l = record {
  found : FindsFirstLate l.bounds l.routes (take l.hop l.path) l.found;
  spares : AreSpares l.bounds l.routes l.spares;
}
