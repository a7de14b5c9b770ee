use Rattle.std.proofs.Common.{◌≡◌, ◌++◌, length, drop, map}
use Rattle.ats_shape.specs.Verdicts.{offer_of}
use Rattle.ats_lrq_shape.specs.Verdicts.{lrq_verdicts_on}
use Rattle.ats_lrq_shape.proofs.Folded.{verdict_list}
use Rattle.ats_lrq_shape.proofs.verdicts.judge.Given as goal

-- the verdicts so far and those on the frames left are the verdicts on all
abbrev pub invariant-loop-frame : goal.invariant-loop-frame
invariant-loop-frame l = record {
  due : l.verdicts.items ++ verdict_list l.groups (map offer_of (drop l.frame-index l.frames))
      ≡ lrq_verdicts_on l.fn.shape;
  each : length l.verdicts.items ≡ l.frame-index;
  members : length l.groups.members ≡ length l.fn.shape.streams;
}
