use Rattle.std.proofs.Common.{◌≡◌, ◌+◌, ◌≤◌, length, [], Some}
use Rattle.ats_certificate_file.specs.Reading.{rows_from}
use Rattle.ats_certificate_file.proofs.reading.rows_from.Given as goal

-- the rows so far and the records left give what all records give
abbrev pub invariant-loop-certificate : goal.invariant-loop-certificate
invariant-loop-certificate l = record {
  due : rows_from l.names l.certificate l.number l.records.left ≡ rows_from l.names [] 2 l.initial.records.left;
  width : l.records.width ≡ Some 9;
  few : l.number + length l.records.left ≤ 16777218;
}

abbrev pub decreases-loop-certificate : goal.decreases-loop-certificate
decreases-loop-certificate l = length l.records.left
