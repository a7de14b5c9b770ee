-- A frame becomes eligible at an event of its own, or at once where it came.
use Rattle.std.proofs.Common.{◌≡◌, ℕ, List, ◌∷◌, ◌++◌, All, Option, Some, sym, ap, ◌∙◌, subst, arith}
use Rattle.std.proofs.lemmas.List.Elements.{All-append, All-tail, All-weaker}
use Rattle.std.proofs.lemmas.Option.{same_Some}
use Rattle.ats_num.specs.declared.time.Ps.{Ps}
use Rattle.ats_network.specs.Network.{DeclaredNetwork}
use Rattle.ats_events.specs.declared.moment.Moment.{Moment}
use Rattle.ats_trace.specs.declared.journey.Release.{Release}
use Rattle.ats_engine_steps.specs.Course.{Course, stage_at}
use Rattle.ats_engine_steps.specs.Entries.{IsReached, eligibility_by, eligible_moment}
use Rattle.ats_engine_steps.specs.Invariant.{Holds}
use Rattle.ats_engine_steps.specs.Steps.{Comes, due_entries, rows_next}
use Rattle.ats_engine_steps.specs.declared.event.Event.{Event}
use Rattle.ats_engine_steps.specs.declared.event.Event.TheVariants.{Arrival, Eligibility}
use Rattle.ats_engine_steps.specs.declared.stage.Stage.TheVariants.{Due}
use Rattle.ats_engine_proofs.specs.Next.{IsAfter, IsEligibleNow, IsNext}
use Rattle.ats_engine_proofs.proofs.Begun.{rows_begun}
use Rattle.ats_engine_proofs.proofs.Entries.{comes-after}
use Rattle.ats_engine_proofs.proofs.Follow.{next-of, reached-after}
use Rattle.ats_engine_proofs.proofs.Kept.{comes-holds}
use Rattle.ats_engine_proofs.proofs.Now.{next-reached}
use Rattle.ats_engine_proofs.proofs.Stages.{due-by, next-moment}

-- a frame whose entry is the next one becomes eligible at that event
pub eligible-next : {T : Type 0} {key : T → ℕ → ℕ → ℕ} {wait : ℕ → ℕ → ℕ} {network : DeclaredNetwork}
    {releases : List Release} {course : Course T} {now : Moment} {row : ℕ} {entries : List (Moment × Event)}
    → IsNext key wait network releases course now (Eligibility row) entries
    → IsEligibleNow key wait network releases course now row entries
eligible-next {T} {key} {wait} {network} {releases} {course} {now} {row} {entries} next =
    let due : stage_at course row ≡ Due now.at = due-by row (stage_at course row) now (next-moment next) in
    let own : eligible_moment row now.at ≡ now =
    same_Some (eligible_moment row now.at) now (sym (ap (eligibility_by row) due) ∙ next-moment next) in
    record {
      holds = subst (λ (m : Moment). Holds key wait network releases course ((m, Eligibility row) ∷ entries)) (sym own)
          next.holds;
      first = next.first;
      reached = next-reached next;
      before = omega (arith, (next-of next).phase);
    }

-- a frame that came, and is eligible at that time, becomes so at its arrival
pub eligible-at_once : {T : Type 0} {key : T → ℕ → ℕ → ℕ} {wait : ℕ → ℕ → ℕ} {network : DeclaredNetwork}
    {releases : List Release} {old new : Course T} {now : Moment} {row : ℕ} {entries : List (Moment × Event)}
    {due : Option Ps} → IsNext key wait network releases old now (Arrival row) entries
    → Comes network old new now row due → due ≡ Some now.at
    → IsEligibleNow key wait network releases new now row
    (due_entries (Some now.at) (rows_begun network old row) ++ entries)
eligible-at_once {T} {key} {wait} {network} {releases} {old} {new} {now} {row} {entries} {due} next step is =
    let rows : List ℕ = rows_next network old row in
    let others : List (Moment × Event) = due_entries (Some now.at) (rows_begun network old row) in
    let After : Moment × Event → Type 0 = λ (x : Moment × Event). IsAfter now x.0 in
    let Reached : Moment × Event → Type 0 = λ (x : Moment × Event). IsReached now x.0 in
    let after : All After (due_entries (Some now.at) rows) =
    subst (λ (d : Option Ps). All After (due_entries d rows)) is (comes-after next step) in
    record {
      holds = subst (λ (d : Option Ps). Holds key wait network releases new (due_entries d rows ++ entries)) is
          (comes-holds next step);
      first = All-append Reached others entries
          (All-weaker After Reached (λ x later. reached-after now x.0 later) others
          (All-tail After (eligible_moment row now.at, Eligibility row) others after)) next.first;
      reached = subst (λ (m : Moment). IsReached m now) (sym (ap (λ (c : Course T). c.last) step.becomes))
          (record { time = omega arith; phase = λ same. omega arith });
      before = omega (arith, (next-of next).phase);
    }
