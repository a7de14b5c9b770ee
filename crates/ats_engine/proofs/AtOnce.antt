-- A frame that came is offered to its port at once, where it is eligible then, or left until it is.
use Rattle.std.proofs.Common.{◌≡◌, ◌≢◌, ℕ, ◌<◌, List, ◌∷◌, ◌++◌, append_assoc, All, Option, Some, sym, ap, ◌∙◌}
use Rattle.std.proofs.Common.{subst, inl, inr, arith}
use Rattle.std.proofs.lemmas.Bool.{cases_eq}
use Rattle.std.proofs.lemmas.List.Elements.{All-append, All-tail}
use Rattle.ats_num.specs.declared.time.Ps.{Ps}
use Rattle.ats_network.specs.Network.{DeclaredNetwork}
use Rattle.ats_events.specs.declared.moment.Moment.{Moment}
use Rattle.ats_trace.specs.declared.journey.Release.{Release}
use Rattle.ats_engine_steps.specs.Bounds.{steps_left}
use Rattle.ats_engine_steps.specs.Conditions.{MayBeOffered}
use Rattle.ats_engine_steps.specs.Course.{Course}
use Rattle.ats_engine_steps.specs.Invariant.{Holds}
use Rattle.ats_engine_steps.specs.Steps.{BecomesEligible, Comes, due_entries}
use Rattle.ats_engine_steps.specs.declared.event.Event.{Event}
use Rattle.ats_engine_steps.specs.declared.event.Event.TheVariants.{Arrival}
use Rattle.ats_engine_proofs.specs.Next.{IsAfter, IsEligibleNow, IsNext}
use Rattle.ats_engine_proofs.proofs.Allowed.{may-be-offered}
use Rattle.ats_engine_proofs.proofs.EligibleNow.{eligible-at_once}
use Rattle.ats_engine_proofs.proofs.Entries.{comes-after, offered-after}
use Rattle.ats_engine_proofs.proofs.Kept.{comes-holds, offered-holds}
use Rattle.ats_engine_proofs.proofs.Times.{comes-less, offered-less}
use Rattle.ats_engine.specs.Offering.{IsLeftUntil}
use Rattle.ats_engine.proofs.Coming.{begun_next}
use Rattle.ats_engine.proofs.Dues.{due_of}

-- a step was taken that brings these entries, which are later than its event
pub record Proceeds {T : Type 0} (key : T → ℕ → ℕ → ℕ) (wait : ℕ → ℕ → ℕ) (network : DeclaredNetwork)
    (releases : List Release) (old new : Course T) (now : Moment) (entries more : List (Moment × Event))
    : Type 0 where
  pub holds : Holds key wait network releases new (more ++ entries)
  pub after : All (λ (x : Moment × Event). IsAfter now x.0) more
  pub less : steps_left new < steps_left old
  pub tie : new.tie ≡ old.tie

-- two times of as many picoseconds are one time
same-time : (a b : Ps) → a.0 ≡ b.0 → a ≡ b
same-time a b same =
    let ps : ℕ → Ps = λ (n : ℕ). record { 0 = n } in
    ap ps same

module _ {T : Type 0} {key : T → ℕ → ℕ → ℕ} {wait : ℕ → ℕ → ℕ} {network : DeclaredNetwork} {releases : List Release}
    {old mid : Course T} {now : Moment} {row : ℕ} {entries : List (Moment × Event)} {due : Option Ps} {at : Ps}
  where
    -- where it is eligible at its arrival, it is so now
    at_once : IsNext key wait network releases old now (Arrival row) entries → Comes network old mid now row due
        → due ≡ Some at → at.0 ≡ now.at.0
        → IsEligibleNow key wait network releases mid now row
        (due_entries (Some now.at) (begun_next network old row) ++ entries)
    at_once next step is same = eligible-at_once next step (is ∙ ap Some (same-time at now.at same))

    -- so its port may be offered it
    pub offered-may : IsNext key wait network releases old now (Arrival row) entries → Comes network old mid now row due
        → due ≡ Some at → at.0 ≡ now.at.0 → MayBeOffered network mid now.at.0 row
    offered-may next step is same = may-be-offered (at_once next step is same)

    -- the entries of an arrival are later than it
    after-arrival : IsNext key wait network releases old now (Arrival row) entries → Comes network old mid now row due
        → due ≡ Some at
        → All (λ (x : Moment × Event). IsAfter now x.0) (due_entries (Some at) (row ∷ begun_next network old row))
    after-arrival next step is =
        subst (λ (d : Option Ps). All (λ (x : Moment × Event). IsAfter now x.0)
        (due_entries d (row ∷ begun_next network old row))) is (comes-after next step)

module _ {T : Type 0} {key : T → ℕ → ℕ → ℕ} {wait : ℕ → ℕ → ℕ} {network : DeclaredNetwork} {releases : List Release}
    {old mid new : Course T} {now : Moment} {row : ℕ} {entries own : List (Moment × Event)} {due : Option Ps} {at : Ps}
  where
    -- once it was offered
    by-offer : IsNext key wait network releases old now (Arrival row) entries → Comes network old mid now row due
        → due ≡ Some at → at.0 ≡ now.at.0 → BecomesEligible key network mid new now row own
        → Proceeds key wait network releases old new now entries
        (own ++ due_entries (Some at) (begun_next network old row))
    by-offer next step is same offered =
        let others : List (Moment × Event) = due_entries (Some at) (begun_next network old row) in
        let After : Moment × Event → Type 0 = λ (x : Moment × Event). IsAfter now x.0 in
        let eligible = at_once next step is same in
        let at_now : now.at ≡ at = sym (same-time at now.at same) in
        let fewer = offered-less eligible offered in
        record {
          holds = subst (Holds key wait network releases new) (sym (append_assoc own others entries))
              (subst (λ (t : Ps). Holds key wait network releases new
              (own ++ (due_entries (Some t) (begun_next network old row) ++ entries))) at_now
              (offered-holds eligible offered));
          after = All-append After own others (offered-after eligible offered)
              (All-tail After (due_of row at) others (after-arrival next step is));
          less = omega (arith, fewer, comes-less next step);
          tie = ap (λ (c : Course T). c.tie) offered.becomes ∙ ap (λ (c : Course T). c.tie) step.becomes;
        }

    -- or left
    by-leaving : IsNext key wait network releases old now (Arrival row) entries → Comes network old mid now row due
        → due ≡ Some at → IsLeftUntil mid new row at own
        → Proceeds key wait network releases old new now entries
        (own ++ due_entries (Some at) (begun_next network old row))
    by-leaving next step is left =
        let rows : List ℕ = row ∷ begun_next network old row in
        let others : List (Moment × Event) = due_entries (Some at) (begun_next network old row) in
        let here : Proceeds key wait network releases old mid now entries (due_entries (Some at) rows) = record {
          holds = subst (λ (d : Option Ps). Holds key wait network releases mid (due_entries d rows ++ entries)) is
              (comes-holds next step);
          after = after-arrival next step is;
          less = comes-less next step;
          tie = ap (λ (c : Course T). c.tie) step.becomes;
        } in
        subst (λ (es : List (Moment × Event)). Proceeds key wait network releases old new now entries (es ++ others))
        (sym left.brings)
        (subst (λ (c : Course T). Proceeds key wait network releases old c now entries (due_entries (Some at) rows))
        (sym left.same) here)

    -- either way
    pub proceeds : IsNext key wait network releases old now (Arrival row) entries → Comes network old mid now row due
        → due ≡ Some at → (at.0 ≡ now.at.0 → BecomesEligible key network mid new now row own)
        → (at.0 ≢ now.at.0 → IsLeftUntil mid new row at own)
        → Proceeds key wait network releases old new now entries
        (own ++ due_entries (Some at) (begun_next network old row))
    proceeds next step is offered left =
        elim (cases_eq at.0 now.at.0) as (λ _. Proceeds key wait network releases old new now entries
        (own ++ due_entries (Some at) (begun_next network old row))) [
          | inl same ↦ by-offer next step is same (offered same)
          | inr later ↦ by-leaving next step is (left later)
        ]
