use Rattle.std.proofs.Common.{All}
use Rattle.ats_port_capture.specs.Sightings.{IsWritable}
use Rattle.ats_port_capture.proofs.Ways.{AreSoFar}
use Rattle.ats_port_capture.proofs.sending.push_legs.Given as goal

abbrev pub invariant-loop-leg : goal.invariant-loop-leg
invariant-loop-leg l = record {
  told : AreSoFar l.network l.run l.port l.frame l.leg l.fn.sent.items l.sent.items;
  each : All IsWritable l.sent.items;
}
