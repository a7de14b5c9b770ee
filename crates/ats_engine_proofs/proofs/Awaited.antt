-- What a step makes of the events that are to happen.
use Rattle.std.proofs.Common.{◌≡◌, zero, suc, List, [], ◌∷◌, ◌++◌, All, Option, Some, sym, ap, ◌∙◌, subst, inl, inr}
use Rattle.std.proofs.Common.{arith}
use Rattle.std.specs.Prelude.{◌≢◌, ◌⊎◌, AllPairs, Contains, IfSome, slice_index_or}
use Rattle.std.proofs.lemmas.List.Elements.{All-append, All-head, All-tail, Contains-append_left, Contains-append_right}
use Rattle.std.proofs.lemmas.List.Kept.{AllPairs-cons}
use Rattle.std.proofs.lemmas.Option.{IfSome_then}
use Rattle.ats_facts.proofs.Lists.{pairs_head, pairs_tail}
use Rattle.ats_events.specs.declared.moment.Moment.{Moment}
use Rattle.ats_engine_steps.specs.Course.{Course}
use Rattle.ats_engine_steps.specs.Entries.{moment_of, IsReached, AreAwaited}
use Rattle.ats_engine_steps.specs.declared.event.Event.{Event}

-- an element of a list with one more on top is that one or another one
contains_cases : {X : Type 0} (x : X) (xs : List X) (y : X) → Contains (x ∷ xs) y → (x ≡ y) ⊎ Contains xs y
contains_cases x xs y (zero, within, is) = inl is
contains_cases x xs y (suc k, within, is) = inr (k, omega arith, is)

-- a relation of each two elements of two lists, one after the other
pub all_pairs_append : {X : Type 0} (R : X → X → Type 0) (xs ys : List X) → AllPairs R xs → AllPairs R ys
    → All (λ (x : X). All (R x) ys) xs → AllPairs R (xs ++ ys)
all_pairs_append R [] ys first second across = second
all_pairs_append {X} R (x ∷ xs) ys first second across =
    AllPairs-cons R x (xs ++ ys)
    (All-append (R x) xs ys (pairs_head R x xs first) (All-head (λ (x : X). All (R x) ys) x xs across))
    (all_pairs_append R xs ys (pairs_tail R x xs first) second (All-tail (λ (x : X). All (R x) ys) x xs across))

-- no event has a moment but the one that has happened
abbrev pub IsFree : (Event → Option Moment) → Event → Event → Type 0
IsFree moments happened event = (moment : Moment) → moments event ≡ Some moment → event ≡ happened

-- when this event is to happen, if it is, one of these entries says
abbrev pub IsAmong : List (Moment × Event) → Event → Option Moment → Type 0
IsAmong more event next = IfSome next (λ (moment : Moment). Contains more (moment, event))

-- what a step makes of an event: another one than that which has happened is to happen when it was to, or one that had
-- no moment, or has happened, is to happen when the new entries say
pub data Fate (old new : Event → Option Moment) (happened : Event) (more : List (Moment × Event)) (event : Event)
    : Type 0 where
  stays : event ≢ happened → new event ≡ old event → Fate old new happened more event
  changes : IsFree old happened event → IsAmong more event (new event) → Fate old new happened more event

-- the step brings these entries, each of an event that had no moment or has happened
pub record Brings (old new : Event → Option Moment) (happened : Event) (more : List (Moment × Event)) : Type 0 where
  pub each : All (λ (x : Moment × Event). new x.1 ≡ Some x.0) more
  pub free : All (λ (x : Moment × Event). IsFree old happened x.1) more
  pub apart : AllPairs (λ (x y : Moment × Event). x.1 ≢ y.1) more
  pub fates : (event : Event) → Fate old new happened more event

-- an event that had a moment and has not happened keeps it
kept : {old new : Event → Option Moment} {happened : Event} {more : List (Moment × Event)} (event : Event)
    (moment : Moment) → Fate old new happened more event → event ≢ happened → old event ≡ Some moment
    → new event ≡ Some moment
kept event moment (stays other same) apart is = same ∙ is
kept event moment (changes free among) apart is = absurd (apart (free moment is))

-- each event that is to happen has its entry
there_then : {old new : Event → Option Moment} {happened : Event} {more : List (Moment × Event)} (now : Moment)
    (entries : List (Moment × Event)) (event : Event) → Fate old new happened more event
    → IsAmong ((now, happened) ∷ entries) event (old event) → IsAmong (more ++ entries) event (new event)
there_then {old} {new} {happened} {more} now entries event (stays other same) there =
    subst (IsAmong (more ++ entries) event) (sym same)
    (IfSome_then (old event) there (λ (moment : Moment) c.
    elim (contains_cases (now, happened) entries (moment, event) c) as (λ _. Contains (more ++ entries)
    (moment, event)) [
      | inl first ↦ absurd (other (sym (ap (λ (x : Moment × Event). x.1) first)))
      | inr later ↦ Contains-append_right more entries (moment, event) later
    ]))
there_then {old} {new} {happened} {more} now entries event (changes free among) there =
    IfSome_then (new event) among (λ (moment : Moment) c. Contains-append_left more entries (moment, event) c)

-- the entries after a step: those that it brings, and the others of before it
pub awaited-after : {T : Type 0} (old new : Course T) (now : Moment) (happened : Event)
    (entries more : List (Moment × Event)) → AreAwaited old ((now, happened) ∷ entries)
    → Brings (moment_of old) (moment_of new) happened more
    → All (λ (entry : Moment × Event). IsReached new.last entry.0) (more ++ entries)
    → AreAwaited new (more ++ entries)
awaited-after {T} old new now happened entries more before brings reached =
    let Was : Moment × Event → Type 0 = λ (x : Moment × Event). moment_of old x.1 ≡ Some x.0 in
    let Is : Moment × Event → Type 0 = λ (x : Moment × Event). moment_of new x.1 ≡ Some x.0 in
    let Apart : Moment × Event → Moment × Event → Type 0 = λ (x y : Moment × Event). x.1 ≢ y.1 in
    let was : All Was entries = All-tail Was (now, happened) entries before.each in
    let others : All (Apart (now, happened)) entries = pairs_head Apart (now, happened) entries before.apart in
    record {
      each = All-append Is more entries brings.each
          (λ k d h. kept (slice_index_or entries k d).1 (slice_index_or entries k d).0
          (brings.fates (slice_index_or entries k d).1) (λ e. others k d h (sym e)) (was k d h));
      there = λ event. there_then now entries event (brings.fates event) (before.there event);
      apart = all_pairs_append Apart more entries brings.apart
          (pairs_tail Apart (now, happened) entries before.apart)
          (λ i c in_more k d h same.
          others k d h (sym (brings.free i c in_more (slice_index_or entries k d).0
          (ap (moment_of old) same ∙ was k d h)) ∙ same));
      reached = reached;
    }
