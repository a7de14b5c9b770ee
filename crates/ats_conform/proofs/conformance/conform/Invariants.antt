use Rattle.ats_conform.specs.Steps.{AreMeters, KeepSoFar}
use Rattle.ats_conform.proofs.conformance.conform.Given as goal

abbrev pub invariant-loop-place : goal.invariant-loop-place
invariant-loop-place l = record {
  meters : AreMeters l.network l.releases l.place l.meters.items;
  kept : KeepSoFar l.network l.releases l.place;
}
