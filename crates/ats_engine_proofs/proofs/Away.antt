use Rattle.std.proofs.Common.{◌≡◌, ℕ, length, ap, ◌∙◌}
use Rattle.std.proofs.Common.{sym, subst, inl, inr}
use Rattle.std.specs.Prelude.{◌≢◌, ◌==◌}
use Rattle.std.proofs.lemmas.Bool.{cases_Bool, cond-true, cond-false}
use Rattle.ats_num.specs.declared.time.Ps.{Ps}
use Rattle.ats_group.specs.declared.verdict.Verdict.{Verdict}
use Rattle.ats_group.specs.declared.verdict.Verdict.TheVariants.{Eligible, Late, Size}
use Rattle.ats_network.specs.Network.{DeclaredNetwork}
use Rattle.ats_run_records.specs.Progress.{Progress}
use Rattle.ats_engine_steps.specs.Course.{Course, path_of, stage_at, place_at}
use Rattle.ats_engine_steps.specs.Steps.{Move, leaves_for, stage_by}
use Rattle.ats_engine_steps.specs.declared.stage.Stage.{Stage}
use Rattle.ats_engine_steps.specs.declared.stage.Stage.TheVariants.{Apart, Coming, Due, Waiting, Over}
use Rattle.ats_engine_proofs.proofs.PortKept.{IsAway}

-- a frame at this stage of a leg is held by no port of it
abbrev pub IsBetween : Stage → Type 0
IsBetween Apart = Unit {0}
IsBetween (Coming at) = Unit {0}
IsBetween (Due at) = Unit {0}
IsBetween Waiting = ⊥
IsBetween Over = Unit {0}

-- so it is away from each
pub between-away : {T : Type 0} (network : DeclaredNetwork) (course : Course T) (port row : ℕ) (stage : Stage)
    → stage_at course row ≡ stage → IsBetween stage → IsAway network course port row
between-away network course port row stage is between e place = subst IsBetween (sym is ∙ e) between

-- a frame is away from all ports but the one that it stands at
pub placed-away : {T : Type 0} (network : DeclaredNetwork) (course : Course T) (port other row : ℕ)
    → place_at network course row ≡ port → other ≢ port → IsAway network course other row
placed-away network course port other row place apart e at = apart (sym at ∙ place)

-- along a leg to which a frame comes it is held by no port then
pub stage-between : (v : Verdict) → IsBetween (stage_by v)
stage-between (Eligible e) = tt
stage-between (Late e) = tt
stage-between Size = tt

-- a frame that was sent keeps its release
pub leaves-release : (network : DeclaredNetwork) (row : ℕ) (p : Progress) (at : Ps)
    → (leaves_for network row p at).progress.release ≡ p.release
leaves-release network row p at =
    elim (cases_Bool (length p.hops == length (path_of network p)))
    as (λ _. (leaves_for network row p at).progress.release ≡ p.release) [
      | inl e ↦ ap (λ (m : Move). m.progress.release) (cond-true _ _ _ e)
      | inr e ↦ ap (λ (m : Move). m.progress.release) (cond-false _ _ _ e)
    ]

-- and is held by no port then
pub leaves-between : (network : DeclaredNetwork) (row : ℕ) (p : Progress) (at : Ps)
    → IsBetween (leaves_for network row p at).stage
leaves-between network row p at =
    elim (cases_Bool (length p.hops == length (path_of network p)))
    as (λ _. IsBetween (leaves_for network row p at).stage) [
      | inl e ↦ subst IsBetween (sym (ap (λ (m : Move). m.stage) (cond-true _ _ _ e))) tt
      | inr e ↦ subst IsBetween (sym (ap (λ (m : Move). m.stage) (cond-false _ _ _ e))) tt
    ]
