use Rattle.std.proofs.Common.{drop}
use Rattle.ats_admission_state.specs.Kept.{AreLeastBeside}
use Rattle.ats_admission_state.specs.Spares.{KeepSpares}
use Rattle.ats_admission_state.proofs.walks.renew_path.Given as goal

-- the bounds of the ports so far are made anew, and spares are kept
abbrev pub invariant-loop-port : goal.invariant-loop-port
invariant-loop-port l = record {
  left : AreLeastBeside l.network (drop l.port-index l.path) l.bounds;
  spares : KeepSpares l.users l.initial.bounds l.bounds l.initial.spares l.spares;
}
