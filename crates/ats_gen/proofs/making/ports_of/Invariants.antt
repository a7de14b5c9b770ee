use Rattle.std.proofs.Common.{◌≡◌, ℕ, ◌*◌, ◌≤◌}
use Rattle.ats_trace.specs.Releases.{ports_of_frames}
use Rattle.ats_gen.specs.Made.{made}
use Rattle.ats_gen.proofs.making.ports_of.Given as goal

abbrev pub invariant-loop-frame : goal.invariant-loop-frame
invariant-loop-frame l = record {
  ports : (seed : ℕ) → l.ports ≡ ports_of_frames l.network (made l.network seed l.frame);
  bounded : l.ports ≤ 65536 * l.frame;
}
