use Rattle.std.proofs.Common.{◌≡◌, ◌-◌, ◌≤◌, vec_len}
use Rattle.ats_io.specs.Outside.{Continues}
use Rattle.ats_io.proofs.Turns.{ReadsUpTo}
use Rattle.ats_capture.specs.declared.reading.TheConstants.{MAX_BYTES, PIECE}
use Rattle.ats_capture.proofs.ReadBytes.{Reads}
use Rattle.ats_capture.proofs.reading.capture_records.Given as goal

abbrev pub invariant-loop-reader : goal.invariant-loop-reader
invariant-loop-reader g l = record {
  room : vec_len l.buffer ≡ PIECE;
  within : l.at ≤ MAX_BYTES;
  reads : Reads (g.F.Files.told l.fn.files l.name) l.at l.reader;
  calm : g.F.Files.faults l.files ≡ g.F.Files.faults l.fn.files;
  continues : Continues g.F.Files.told g.F.Files.faults l.fn.files l.files;
  reading : ReadsUpTo l.name l.at (g.F.Files.reads l.fn.files) (g.F.Files.reads l.files);
}

abbrev pub decreases-loop-reader : goal.decreases-loop-reader
decreases-loop-reader g l = MAX_BYTES - l.at
