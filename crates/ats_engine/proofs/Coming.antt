-- What the agenda gets when a frame comes to the next port of a leg.
use Rattle.std.proofs.Common.{◌≡◌, ℕ, ◌<◌, List, [], ◌∷◌, length, All, Option, Some, None}
use Rattle.std.proofs.Common.{refl, sym, ap, ◌∙◌, subst, arith}
use Rattle.std.specs.Prelude.{Contains}
use Rattle.std.proofs.lemmas.List.Elements.{All-tail, All-weaker}
use Rattle.std.proofs.lemmas.List.Sorted.{IsPermutation-refl}
use Rattle.ats_num.specs.declared.time.Ps.{Ps}
use Rattle.ats_network.specs.Network.{DeclaredNetwork, senders_of}
use Rattle.ats_events.specs.Contents.{Contents}
use Rattle.ats_events.specs.declared.moment.Moment.{Moment}
use Rattle.ats_run_records.specs.Progress.{Progress, no_progress, progress_at, with_hop}
use Rattle.ats_engine_steps.specs.Conditions.{HasRoom, MayComeNow}
use Rattle.ats_engine_steps.specs.Course.{Course}
use Rattle.ats_engine_steps.specs.Steps.{Comes, came, due_entries, set_each}
use Rattle.ats_engine_steps.specs.declared.event.Event.{Event}
use Rattle.ats_engine.specs.Entering.{MayEnter, Enters, rows_begun}
use Rattle.ats_engine.proofs.Dues.{due_of}
use Rattle.ats_engine.proofs.Joining.{may-enter-later}
use Rattle.ats_engine_proofs.proofs.Rows.{length-set_each, set_each-at}

-- the frame has come along a leg, and these legs begin there
pub record HasCome {T : Type 0} (network : DeclaredNetwork) (new : Course T) (row hop : ℕ) (begun : List ℕ)
    : Type 0 where
  pub within : row < length new.records
  pub sender : (progress_at new.records row).release.sender < length (senders_of network)
  pub frame : (progress_at new.records row).frame < length new.firsts
  pub there : All (λ (n : ℕ). n < length new.records)
      (rows_begun network new.firsts (progress_at new.records row) hop)
  pub same : rows_begun network new.firsts (progress_at new.records row) hop ≡ begun

-- those that begin where it comes next
abbrev pub begun_next : {T : Type 0} → DeclaredNetwork → Course T → ℕ → List ℕ
begun_next network course row = rows_begun network course.firsts (progress_at course.records row)
    (length (progress_at course.records row).hops)

pub has-come : {T : Type 0} {network : DeclaredNetwork} {old new : Course T} {now : Moment} {row : ℕ} {due : Option Ps}
    (hop : ℕ) → MayComeNow network old now.at.0 row → Comes network old new now row due
    → hop ≡ length (progress_at old.records row).hops → HasCome network new row hop (begun_next network old row)
has-come {T} {network} {old} {new} {now} {row} {due} hop may step is =
    let next : ℕ → Progress = λ (n : ℕ). with_hop (progress_at old.records n) (came now.at step.verdict) in
    let begun : List ℕ = begun_next network old row in
    let records : new.records ≡ set_each step.rows next old.records =
    ap (λ (course : Course T). course.records) step.becomes in
    let firsts : new.firsts ≡ old.firsts = ap (λ (course : Course T). course.firsts) step.becomes in
    let long : length new.records ≡ length old.records =
    ap (λ (ps : List Progress). length ps) records ∙ length-set_each step.rows next old.records in
    let own : Contains step.rows row =
    subst (λ (rows : List ℕ). Contains rows row) (sym step.next) (0, omega arith, refl) in
    let here : progress_at new.records row ≡ next row =
    ap (λ (ps : List Progress). progress_at ps row) records
    ∙ set_each-at step.rows next old.records row no_progress own may.may_come.room.within in
    let same : rows_begun network new.firsts (progress_at new.records row) hop ≡ begun =
    ap (λ (ns : List ℕ). rows_begun network ns (progress_at new.records row) hop) firsts
    ∙ ap (λ (p : Progress). rows_begun network old.firsts p hop) here
    ∙ ap (rows_begun network old.firsts (progress_at old.records row)) is in
    record {
      within = omega (arith, long, may.may_come.room.within);
      sender = subst (λ (p : Progress). p.release.sender < length (senders_of network)) (sym here)
          may.may_come.sender;
      frame = omega (
        arith,
        ap (λ (p : Progress). p.frame) here,
        ap (λ (ns : List ℕ). length ns) firsts,
        may.frame,
      );
      there = subst (All (λ (n : ℕ). n < length new.records)) (sym same)
          (All-weaker (HasRoom old.records) (λ (n : ℕ). n < length new.records)
          (λ n room. omega (arith, long, room.within)) begun (All-tail (HasRoom old.records) row begun may.next));
      same = same;
    }

-- where it is eligible, the entries for these legs may be put in
pub may-enter-begun : {O : Type 0} {before : O → Moment → Moment → Type 0} {agenda : Contents O Event}
    {begun others : List ℕ} {due : Option Ps} {at : Ps} (row : ℕ) → due ≡ Some at → others ≡ begun
    → MayEnter before agenda (due_entries due (row ∷ begun)) → MayEnter before agenda (due_entries (Some at) others)
may-enter-begun {O} {before} {agenda} {begun} {others} {due} {at} row some same may =
    subst (λ (ns : List ℕ). MayEnter before agenda (due_entries (Some at) ns)) (sym same)
    (may-enter-later (due_of row at ∷ [])
    (subst (λ (d : Option Ps). MayEnter before agenda (due_entries d (row ∷ begun))) some may))

-- and are
pub enters-begun : {O : Type 0} {agenda after : Contents O Event} {begun others : List ℕ} (at : Ps) → others ≡ begun
    → Enters agenda after (due_entries (Some at) others) → Enters agenda after (due_entries (Some at) begun)
enters-begun {O} {agenda} {after} {begun} {others} at same enters =
    subst (λ (ns : List ℕ). Enters agenda after (due_entries (Some at) ns)) same enters

-- else there are none
pub enters-none : {O : Type 0} {agenda : Contents O Event} {due : Option Ps} (rows : List ℕ)
    → ((at : Ps) → due ≡ Some at → ⊥) → Enters agenda agenda (due_entries due rows)
enters-none {O} {agenda} {due} rows none = by due none
  where
    by : (d : Option Ps) → ((at : Ps) → d ≡ Some at → ⊥) → Enters agenda agenda (due_entries d rows)
    by None never =
        record { entries = IsPermutation-refl agenda.entries; last = refl; capacity = refl; order = refl }
    by (Some at) never = absurd (never at refl)
