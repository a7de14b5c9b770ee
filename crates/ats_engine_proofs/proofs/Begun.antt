-- Along a leg that begins where a frame comes next nothing has happened yet.
use Rattle.std.proofs.Common.{◌≡◌, ℕ, suc, ◌<◌, List, length, get_or, Option, None, All, refl, ap}
use Rattle.std.proofs.Common.{◌∙◌, subst, inl, inr, arith}
use Rattle.std.proofs.lemmas.Option.{slice_get_past}
use Rattle.std.specs.Prelude.{◌⊎◌, slice_get, map, filter}
use Rattle.std.specs.List.{range_with_len}
use Rattle.ats_num.specs.declared.time.Ps.{Ps}
use Rattle.ats_streams.specs.Branches.{no_branch}
use Rattle.ats_streams.specs.declared.branch.Branch.{Branch}
use Rattle.ats_network.specs.Network.{DeclaredNetwork}
use Rattle.ats_network.specs.Senders.{sender_at}
use Rattle.ats_events.specs.declared.moment.Moment.{Moment}
use Rattle.ats_trace.specs.Stored.{row_of}
use Rattle.ats_trace.specs.HopRecord.{HopRecord}
use Rattle.ats_trace.specs.declared.journey.Release.{Release}
use Rattle.ats_run_records.specs.Progress.{Progress, progress_at}
use Rattle.ats_engine_steps.specs.Course.{Course, stage_at, path_of, sender_of}
use Rattle.ats_engine_steps.specs.Frames.{IsAtStage, IsFrame, HasBegun, BeginsBy, start_by, start_of}
use Rattle.ats_engine_steps.specs.Invariant.{Holds}
use Rattle.ats_engine_steps.specs.Steps.{begins_in, rows_next}
use Rattle.ats_engine_steps.specs.declared.event.Event.{Event}
use Rattle.ats_engine_steps.specs.declared.stage.Stage.{Stage}
use Rattle.ats_engine_steps.specs.declared.stage.Stage.TheVariants.{Apart, Coming, Due, Waiting, Over}
use Rattle.ats_engine_proofs.proofs.Rows.{BeginsThere, next-are, row-is}

-- a frame has not come to where a leg begins
pub record IsApart {T : Type 0} (network : DeclaredNetwork) (course : Course T) (row : ℕ) : Type 0 where
  pub within : row < length course.records
  pub stage : stage_at course row ≡ Apart
  pub is : IsFrame network course (progress_at course.records row) Apart

-- a branch has no record where there is none at the hop at which it begins
not-begun : (leg copy : ℕ) (release : Release) (hops : List HopRecord) → leg ≡ suc copy
    → HasBegun leg release None hops → ⊥
not-begun leg copy release hops is begun = subst (λ (n : ℕ). HasBegun n release None hops) is begun

not-begun_by : (leg copy : ℕ) (release : Release) (hops : List HopRecord) (at : Ps) → leg ≡ suc copy
    → BeginsBy leg release None hops at → ⊥
not-begun_by leg copy release hops at is begun = subst (λ (n : ℕ). BeginsBy n release None hops at) is begun

-- so the frame has not come to it
only-apart : (path : List ℕ) (p : Progress) (s : Stage) (copy : ℕ) → p.leg ≡ suc copy → IsAtStage path None p s
    → s ≡ Apart
only-apart path p Apart copy is at = refl
only-apart path p (Coming time) copy is at =
    absurd (not-begun_by p.leg copy p.release p.hops time is at.here.1)
only-apart path p (Due time) copy is at = absurd (not-begun p.leg copy p.release p.hops is at.here.1)
only-apart path p Waiting copy is at = absurd (not-begun p.leg copy p.release p.hops is at.here.1)
only-apart path p Over copy is at = absurd (not-begun p.leg copy p.release p.hops is at.begun)

-- where a leg begins at the hop to which a frame comes next, there is no record
no-start : {T : Type 0} {network : DeclaredNetwork} {course : Course T} (row begun : ℕ)
    → row_of course.firsts (progress_at course.records row).frame (progress_at course.records row).leg ≡ row
    → BeginsThere network course row (length (progress_at course.records row).hops) begun
    → start_of network course (progress_at course.records begun) ≡ None
no-start {T} {network} {course} row begun named begins =
    let p : Progress = progress_at course.records begun in
    let q : Progress = progress_at course.records row in
    let b : Branch = get_or (sender_of network p).branches begins.copy no_branch in
    let same : b ≡ get_or (sender_of network q).branches begins.copy no_branch =
    ap (λ (r : Release). get_or (sender_at network r.sender).branches begins.copy no_branch) begins.release in
    let leg : b.leg ≡ q.leg = ap (λ (x : Branch). x.leg) same ∙ begins.leg in
    let hop : b.hop ≡ length q.hops = ap (λ (x : Branch). x.hop) same ∙ begins.at_hop in
    let there : row_of course.firsts p.frame b.leg ≡ row =
    ap (λ (f : ℕ). row_of course.firsts f b.leg) begins.frame ∙ ap (row_of course.firsts q.frame) leg ∙ named in
    ap (λ (n : ℕ). start_by network course.firsts course.records n p) begins.is
    ∙ ap (λ (r : ℕ). slice_get (progress_at course.records r).hops b.hop) there
    ∙ slice_get_past q.hops b.hop (omega arith)

-- so the frame has not come to where it begins
pub begun-apart : {T : Type 0} {key : T → ℕ → ℕ → ℕ} {wait : ℕ → ℕ → ℕ} {network : DeclaredNetwork}
    {releases : List Release} {course : Course T} {entries : List (Moment × Event)}
    → Holds key wait network releases course entries → (row begun : ℕ) → row < length course.records
    → BeginsThere network course row (length (progress_at course.records row).hops) begun
    → IsApart network course begun
begun-apart {T} {key} {wait} {network} {releases} {course} holds row begun within begins =
    let p : Progress = progress_at course.records begun in
    let is : IsFrame network course p (stage_at course begun) = holds.frames begun begins.within in
    let none : start_of network course p ≡ None = no-start row begun (row-is holds.shape row within).named begins in
    let stage : stage_at course begun ≡ Apart =
    only-apart (path_of network p) p (stage_at course begun) begins.copy begins.is
    (subst (λ (s : Option HopRecord). IsAtStage (path_of network p) s p (stage_at course begun)) none is.stands) in
    record { within = begins.within; stage = stage; is = subst (IsFrame network course p) stage is }

-- the rows of the legs that begin where a frame comes next
abbrev pub rows_begun : {T : Type 0} → DeclaredNetwork → Course T → ℕ → List ℕ
rows_begun network course row =
    map (row_of course.firsts (progress_at course.records row).frame)
    (filter (begins_in network (progress_at course.records row) (length (progress_at course.records row).hops))
    (range_with_len 1 (length (sender_of network (progress_at course.records row)).branches)))

-- of the rows to which a frame comes next all but that of its leg are so
pub next-or-apart : {T : Type 0} {key : T → ℕ → ℕ → ℕ} {wait : ℕ → ℕ → ℕ} {network : DeclaredNetwork}
    {releases : List Release} {course : Course T} {entries : List (Moment × Event)}
    → Holds key wait network releases course entries → (row : ℕ) → row < length course.records
    → All (λ (n : ℕ). (n ≡ row) ⊎ IsApart network course n) (rows_next network course row)
next-or-apart {T} {key} {wait} {network} {releases} {course} holds row within k d h =
    let n : ℕ = get_or (rows_next network course row) k d in
    elim (next-are holds.shape row within k d h) as (λ _. (n ≡ row) ⊎ IsApart network course n) [
      | inl own ↦ inl own
      | inr begins ↦ inr (begun-apart holds row n within begins)
    ]
