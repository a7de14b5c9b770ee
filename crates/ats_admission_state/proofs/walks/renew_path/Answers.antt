use Rattle.std.proofs.Common.{ℕ, ◌+◌, ◌<◌, List, get_or, length, drop, sym, subst}
use Rattle.std.proofs.lemmas.List.{drop_more}
use Rattle.ats_admission_state.specs.Kept.{AreLeastBeside}
use Rattle.ats_admission_state.specs.Spares.{AreUsers}
use Rattle.ats_admission_state.proofs.Placed.{beside_next}
use Rattle.ats_admission_state.proofs.Spared.{keeps_next}
use Rattle.ats_admission_state.proofs.walks.renew_path.Goals as goal

pub keep_spares-requires-clause-users : goal.keep_spares-requires-clause-users
keep_spares-requires-clause-users c =
    subst (λ (n : ℕ). AreUsers n c.args.users.now) (sym c.loop-port.invariant.spares.count) c.requires.users

pub loop-port-preserved : goal.loop-port-preserved
loop-port-preserved c =
    let path : List ℕ = c.args.path.now in
    let i : ℕ = c.loop-port.port-index in
    let within : i < length path = c.loop-port-test.true in
    record {
      left = beside_next c.args.network.now (get_or path i 0) c.loop-port.bounds
          c.renew_port.new.bounds (drop (i + 1) path) c.renew_port.ensures
          (subst (λ (left : List ℕ). AreLeastBeside c.args.network.now left c.loop-port.bounds)
          (drop_more path i 0 within) c.loop-port.invariant.left);
      spares = keeps_next c.args.users.now c.args.bounds.now c.loop-port.bounds c.renew_port.new.bounds
          c.args.spares.now c.loop-port.spares c.keep_spares.new.spares c.loop-port.invariant.spares
          (c.keep_spares.ensures c.loop-port.bounds c.bounds_at-before.ensures c.renew_port.ensures.kept);
    }
