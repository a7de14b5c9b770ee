use Rattle.std.proofs.Common.{◌≡◌, ◌*◌, ◌≤◌, ◌^◌, take, sum_by}
use Rattle.ats_admission_state.specs.Routes.{bound_of}
use Rattle.ats_admission_state.proofs.routes.sum_at.Given as goal

-- the sum of the bounds so far, of 36 digits each
abbrev pub invariant-loop-place : goal.invariant-loop-place
invariant-loop-place l = record {
  sum : l.sum ≡ sum_by (bound_of l.bounds) (take l.place-index l.places);
  most : l.sum ≤ l.place-index * 10 ^ 36;
}
