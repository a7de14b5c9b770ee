use Rattle.std.proofs.Common.{◌≡◌, ◌++◌, take}
use Rattle.std.specs.List.{flat_map, enumerate_from}
use Rattle.ats_admission_text.specs.Text.{class_line}
use Rattle.ats_admission_text.proofs.pieces.write_classes.Given as goal

-- the lines of the classes so far
abbrev pub invariant-loop-i : goal.invariant-loop-i
invariant-loop-i l =
    l.out.items ≡ l.initial.out.items ++ flat_map (class_line l.topology) (take l.i (enumerate_from 1 l.reasons))
