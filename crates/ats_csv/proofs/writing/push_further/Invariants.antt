use Rattle.std.proofs.Common.{◌≡◌, ◌++◌, map, take}
use Rattle.ats_csv.specs.Plain.{bytes_of, further}
use Rattle.ats_csv.proofs.writing.push_further.Given as goal

abbrev pub invariant-loop-field : goal.invariant-loop-field
invariant-loop-field l = l.out.items ≡ l.initial.out.items ++ further (map bytes_of (take l.field-index l.fields))
