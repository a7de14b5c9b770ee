use Rattle.std.proofs.Common.{All}
use Rattle.ats_port_capture.specs.Sightings.{IsWritable}
use Rattle.ats_port_capture.proofs.Runs.{IsSoFar}
use Rattle.ats_port_capture.proofs.sending.sent_by.Given as goal

abbrev pub invariant-loop-frame : goal.invariant-loop-frame
invariant-loop-frame l = record {
  told : IsSoFar l.network l.run l.port l.frame l.sent.items;
  each : All IsWritable l.sent.items;
}
