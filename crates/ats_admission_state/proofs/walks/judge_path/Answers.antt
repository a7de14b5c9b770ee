use Rattle.std.proofs.Common.{◌≡◌, ℕ, ◌+◌, ◌<◌, List, get_or, length, drop, Option, Some, None, subst, sym, ap, ◌∙◌}
use Rattle.std.specs.Prelude.{fold, IfNone}
use Rattle.std.proofs.lemmas.List.{drop_all, drop_more}
use Rattle.ats_class_table.specs.Table.{Table}
use Rattle.ats_tally.specs.declared.reason.Reason.{Reason}
use Rattle.ats_bound.specs.Reason.{overload}
use Rattle.ats_admission_law.specs.Lowest.{found_at, lower_of}
use Rattle.ats_admission_law.specs.Near.{overstay_at}
use Rattle.ats_admission_state.specs.Kept.{AreLeast, AreLeastBeside}
use Rattle.ats_admission_state.proofs.Found.{fold_more, lower_none}
use Rattle.ats_admission_state.proofs.Near.{on_own}
use Rattle.ats_admission_state.specs.Spares.{AreUsers}
use Rattle.ats_admission_state.proofs.Placed.{beside_kept, beside_next, beside_none}
use Rattle.ats_admission_state.proofs.Spared.{keeps_next}
use Rattle.ats_admission_state.proofs.walks.judge_path.Goals as goal

if_none : {X : Type 0} (o : Option X) (P : Type 0) → P → IfNone o P
if_none None P p = p
if_none (Some x) P p = tt

pub loop-hop-preserved : goal.loop-hop-preserved
loop-hop-preserved c =
    let network = c.args.network.now in
    let path : List ℕ = c.args.path.now in
    let i : ℕ = c.loop-hop.hop in
    let port : ℕ = get_or path i 0 in
    let within : i < length path = c.loop-hop-test.true in
    let loads = λ (best : Option (ℕ × Reason)) (p : ℕ). lower_of best p (found_at (overload network) network p) in
    let stays = λ (best : Option (ℕ × Reason)) (p : ℕ). lower_of best p (found_at (overstay_at network) network p) in
    let earlier = λ (none : c.judge_next-found.result.load ≡ None).
    lower_none c.loop-hop.found.load port (found_at (overload network) network port)
    (sym c.judge_next-found.ensures.load ∙ none) in
    record {
      loads = ap (λ (o : Option (ℕ × Reason)). fold loads o (drop (i + 1) path)) c.judge_next-found.ensures.load
          ∙ fold_more loads c.loop-hop.found.load path i 0 within ∙ c.loop-hop.invariant.loads;
      stays = λ none.
          ap (λ (o : Option (ℕ × Reason)). fold stays o (drop (i + 1) path)) (c.judge_next-found.ensures.stay none)
          ∙ fold_more stays c.loop-hop.found.stay path i 0 within ∙ c.loop-hop.invariant.stays (earlier none);
      beside = beside_kept network port c.loop-hop.bounds c.judge_next-found.new.bounds path
          (on_own path i 0 within) c.judge_next-found.ensures.kept c.loop-hop.invariant.beside;
      left = λ none. beside_next network port c.loop-hop.bounds c.judge_next-found.new.bounds
          (drop (i + 1) path) (c.judge_next-found.ensures.set none)
          (subst (λ (left : List ℕ). AreLeastBeside network left c.loop-hop.bounds)
          (drop_more path i 0 within) (c.loop-hop.invariant.left (earlier none)));
      spares = keeps_next c.args.users.now c.args.bounds.now c.loop-hop.bounds c.judge_next-found.new.bounds
          c.args.spares.now c.loop-hop.spares c.keep_spares.new.spares c.loop-hop.invariant.spares
          (c.keep_spares.ensures c.loop-hop.bounds c.bounds_at-before.ensures c.judge_next-found.ensures.kept);
    }

pub keep_spares-requires-clause-users : goal.keep_spares-requires-clause-users
keep_spares-requires-clause-users c =
    subst (λ (n : ℕ). AreUsers n c.args.users.now) (sym c.loop-hop.invariant.spares.count) c.requires.users

pub returns-in-None-clause-none : goal.returns-in-None-clause-none
returns-in-None-clause-none c =
    let network = c.args.network.now in
    let path : List ℕ = c.args.path.now in
    let bounds : Table ℕ = c.loop-hop.bounds in
    if_none c.map.result (AreLeast network bounds) (beside_none network bounds
    (subst (λ (left : List ℕ). AreLeastBeside network left bounds)
    (drop_all c.loop-hop.hop path c.loop-hop-test.false) (c.loop-hop.invariant.left c.in-None.is)))
