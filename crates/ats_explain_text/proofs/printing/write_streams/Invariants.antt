use Rattle.std.proofs.Common.{◌≡◌, ◌*◌, ◌^◌, ◌≤◌, ◌++◌, take}
use Rattle.std.specs.List.{flat_map}
use Rattle.ats_explain.specs.Numbers.{listeners_before}
use Rattle.ats_explain_text.specs.Text.{stream_text}
use Rattle.ats_explain_text.proofs.printing.write_streams.Given as goal

-- the lines of the streams so far, and how many listeners these have
abbrev pub invariant-loop-stream : goal.invariant-loop-stream
invariant-loop-stream l = record {
  lines : l.out.items
      ≡ l.initial.out.items ++ flat_map (stream_text l.explanation) (take l.stream l.explanation.streams);
  before_is : l.before ≡ listeners_before l.explanation l.stream;
  few : l.before ≤ l.stream * 2 ^ 32;
}
