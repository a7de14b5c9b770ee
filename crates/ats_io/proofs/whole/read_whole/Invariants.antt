use Rattle.std.proofs.Common.{◌≡◌, ◌-◌, ◌≤◌, ◌<◌, length, take, vec_len}
use Rattle.ats_io.specs.Outside.{IfTold, Continues}
use Rattle.ats_io.proofs.Turns.{ReadsUpTo}
use Rattle.ats_io.proofs.whole.read_whole.Given as goal

abbrev pub invariant-loop-whole : goal.invariant-loop-whole
invariant-loop-whole g l = record {
  room : 0 < vec_len l.buffer;
  within : vec_len l.whole ≤ l.limit;
  front : IfTold (g.F.Files.told l.initial.files l.name) (λ bytes. l.whole.items ≡ take (length l.whole.items) bytes);
  calm : g.F.Files.faults l.files ≡ g.F.Files.faults l.initial.files;
  continues : Continues g.F.Files.told g.F.Files.faults l.initial.files l.files;
  reading : ReadsUpTo l.name (length l.whole.items) (g.F.Files.reads l.initial.files) (g.F.Files.reads l.files);
}

abbrev pub decreases-loop-whole : goal.decreases-loop-whole
decreases-loop-whole g l = l.limit - vec_len l.whole
