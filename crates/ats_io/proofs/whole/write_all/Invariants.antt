use Rattle.std.proofs.Common.{◌≡◌, ◌-◌, ◌≤◌, length, take}
use Rattle.ats_io.specs.Outside.{appended}
use Rattle.ats_io.proofs.whole.write_all.Given as goal

abbrev pub invariant-loop-done : goal.invariant-loop-done
invariant-loop-done g l = record {
  within : l.done ≤ length l.text;
  taken : g.O.Sink.held l.out ≡ appended (g.O.Sink.held l.initial.out) (take l.done l.text);
  untouched : l.done ≡ 0 → l.out ≡ l.initial.out;
  calm : g.O.Sink.faults l.out ≡ g.O.Sink.faults l.initial.out;
  counts : g.O.Sink.faults l.initial.out ≤ g.O.Sink.faults l.out;
}

abbrev pub decreases-loop-done : goal.decreases-loop-done
decreases-loop-done g l = length l.text - l.done
