use Rattle.ats_fit.specs.Steps.{AreGauges}
use Rattle.ats_fit.proofs.fitting.fit.Given as goal

abbrev pub invariant-loop-release : goal.invariant-loop-release
invariant-loop-release l = AreGauges l.network l.releases l.release-index l.gauges.items
