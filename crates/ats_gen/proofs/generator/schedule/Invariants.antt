use Rattle.std.proofs.Common.{◌≡◌, ◌*◌, ◌≤◌, All}
use Rattle.ats_trace.specs.declared.journey.Release.{Release}
use Rattle.ats_trace.specs.declared.run.TheConstants.{MAX_RELEASE_PS}
use Rattle.ats_gen.specs.declared.generator.TheConstants.{MAX_PAUSE_PS}
use Rattle.ats_gen.specs.Draw.{state_after}
use Rattle.ats_gen.specs.Made.{clock_of, made}
use Rattle.ats_gen.specs.Making.{AreSchedulers}
use Rattle.ats_gen.proofs.generator.schedule.Given as goal

abbrev pub invariant-loop-frame : goal.invariant-loop-frame
invariant-loop-frame l = record {
  made : l.made.items ≡ made l.network l.seed l.frame;
  within : All (λ (r : Release). r.at.0 ≤ MAX_RELEASE_PS) l.made.items;
  schedulers : AreSchedulers l.network l.made.items l.schedulers.items;
  draws : l.draws.state ≡ state_after l.seed (2 * l.frame);
  clock : l.clock ≡ clock_of l.seed l.frame;
  bounded : l.clock ≤ MAX_PAUSE_PS * l.frame;
}
