use Rattle.std.proofs.Common.{◌≡◌, length}
use Rattle.ats_admission.specs.Judged.{AreSameBut}
use Rattle.ats_admission.specs.Sessions.{IsPending}
use Rattle.ats_admission.proofs.Lowest.{AreRefused}
use Rattle.ats_admission.proofs.judging.lowest.Given as goal

-- each class so far has its reason, nothing but the stream's classes is changed, and it waits still
abbrev pub invariant-loop-class : goal.invariant-loop-class
invariant-loop-class l = record {
  same : AreSameBut l.stream l.fn.network l.network;
  pending : IsPending l.network l.stream l.kept;
  refused : AreRefused l.fn.network l.stream l.reasons 1 l.class;
  long : length l.reasons ≡ 7;
}
