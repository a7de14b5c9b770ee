use Rattle.std.proofs.Common.{◌≡◌}
use Rattle.std.specs.Option.{option_or}
use Rattle.ats_bound.specs.Reason.{overload}
use Rattle.ats_admission_law.specs.Lowest.{found_at}
use Rattle.ats_admission_law.specs.Near.{overstay_at}
use Rattle.ats_admission_state.specs.Judging.{SetsBelow, found_among}
use Rattle.ats_admission_state.proofs.Found.{classes_from}
use Rattle.ats_admission_state.proofs.ports.judge_port.Given as goal

-- no class so far is overloaded, and each has its bound; what was found, or is found at the classes to come, is what is
-- found at the port
abbrev pub invariant-loop-class : goal.invariant-loop-class
invariant-loop-class l = record {
  loads : found_among (overload l.network) l.network l.port (classes_from l.class)
      ≡ found_at (overload l.network) l.network l.port;
  stays : option_or l.stay (found_among (overstay_at l.network) l.network l.port (classes_from l.class))
      ≡ found_at (overstay_at l.network) l.network l.port;
  sets : SetsBelow l.network l.port l.class l.initial.bounds l.bounds;
}
