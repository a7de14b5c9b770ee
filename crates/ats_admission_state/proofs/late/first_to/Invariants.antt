use Rattle.std.proofs.Common.{take}
use Rattle.ats_admission_users.specs.Users.{users_of}
use Rattle.ats_admission_state.specs.Routes.{route_paths}
use Rattle.ats_admission_state.specs.Spares.{AreSpares}
use Rattle.ats_admission_state.proofs.Looked.{IsLooked}
use Rattle.ats_admission_state.proofs.late.first_to.Given as goal

-- those before the port, and the users of it so far, were looked at
abbrev pub invariant-loop-rank : goal.invariant-loop-rank
invariant-loop-rank l = record {
  looked : IsLooked l.bounds l.routes (take l.hop l.path) (users_of (route_paths l.routes) l.port) l.rank l.found;
  spares : AreSpares l.bounds l.routes l.spares;
}
