use Rattle.std.proofs.Common.{◌≡◌, ◌+◌, ◌-◌, ◌≤◌, length, drop}
use Rattle.ats_io.specs.Text.{lines_of}
use Rattle.ats_shape.specs.Reading.{shape_from, shape_of}
use Rattle.ats_shape.proofs.reading.read_shape.Given as goal

-- the lines left, after what is declared so far, give what all lines give
abbrev pub invariant-loop-at : goal.invariant-loop-at
invariant-loop-at l = record {
  due : shape_from l.draft l.number (lines_of (drop l.at l.bytes)) ≡ shape_of l.bytes;
  within : l.at ≤ length l.bytes;
  few : l.number ≤ l.at + 1;
}

abbrev pub decreases-loop-at : goal.decreases-loop-at
decreases-loop-at l = length l.bytes - l.at
