use Rattle.std.proofs.Common.{◌≡◌, ◌≤◌, List, [], ◌∷◌, ◌++◌, length, All, Option, Some, IsPermutation, sym, ◌∙◌}
use Rattle.std.proofs.Common.{subst, append_assoc, length-append, arith}
use Rattle.std.specs.Prelude.{◌≢◌, AllPairs}
use Rattle.std.specs.Option.{ForSome, option_to_list}
use Rattle.std.proofs.lemmas.List.Elements.{All-head, All-weaker}
use Rattle.std.proofs.lemmas.List.Sorted.{length_permutation, IsPermutation-append_right, IsPermutation-trans}
use Rattle.std.proofs.lemmas.List.Sorted.{All-permutation, IsPermutation-append_comm, IsPermutation-append_left}
use Rattle.ats_facts.proofs.Lists.{all_left, all_right, pairs_head, pairs_tail}
use Rattle.ats_facts.proofs.Pairs.{AllPairs-permutation}
use Rattle.ats_events.specs.Contents.{Contents}
use Rattle.ats_events.specs.declared.moment.Moment.{Moment}
use Rattle.ats_engine_steps.specs.Entries.{event_of}
use Rattle.ats_engine_steps.specs.declared.event.Event.{Event}
use Rattle.ats_engine.specs.Entering.{MayEnter, Enters}

-- what holds of each two elements of a list does so of its later part
pub pairs_right : {X : Type 0} (R : X → X → Type 0) (xs ys : List X) → AllPairs R (xs ++ ys) → AllPairs R ys
pairs_right R [] ys pairs = pairs
pairs_right R (x ∷ xs) ys pairs = pairs_right R xs ys (pairs_tail R x (xs ++ ys) pairs)

-- entries that may be put in by two parts: the later one may be put in
pub may-enter-later : {O : Type 0} {before : O → Moment → Moment → Type 0} {agenda : Contents O Event}
    (one : List (Moment × Event)) {other : List (Moment × Event)} → MayEnter before agenda (one ++ other)
    → MayEnter before agenda other
may-enter-later {O} {before} {agenda} one {other} may =
    let joined = append_assoc one other agenda.entries in
    let room : length (one ++ (other ++ agenda.entries)) ≤ agenda.capacity =
    subst (λ (l : List (Moment × Event)). length l ≤ agenda.capacity) joined may.room in
    record {
      room = omega (arith, length-append one (other ++ agenda.entries));
      apart = pairs_right (λ (x y : Moment × Event). x.0 ≢ y.0) one (other ++ agenda.entries)
          (subst (AllPairs (λ (x y : Moment × Event). x.0 ≢ y.0)) joined may.apart);
      after = all_right (λ (x : Moment × Event). ForSome agenda.last (λ last. before agenda.order last x.0)) one other
          may.after;
      told = all_right (λ (x : Moment × Event). event_of x.0 ≡ x.1) one other may.told;
    }

-- and then the earlier one
pub may-enter-earlier : {O : Type 0} {before : O → Moment → Moment → Type 0} {agenda next : Contents O Event}
    {one other : List (Moment × Event)} → MayEnter before agenda (one ++ other) → Enters agenda next other
    → MayEnter before next one
may-enter-earlier {O} {before} {agenda} {next} {one} {other} may enters =
    let joined = append_assoc one other agenda.entries in
    let moved = IsPermutation-append_right one (other ++ agenda.entries) next.entries enters.entries in
    let room : length (one ++ (other ++ agenda.entries)) ≤ agenda.capacity =
    subst (λ (l : List (Moment × Event)). length l ≤ agenda.capacity) joined may.room in
    let same = length_permutation (one ++ (other ++ agenda.entries)) (one ++ next.entries) moved in
    record {
      room = omega (arith, same, room, enters.capacity);
      apart = AllPairs-permutation (λ (x y : Moment × Event). x.0 ≢ y.0) (λ x y apart back. apart (sym back))
          (one ++ (other ++ agenda.entries)) (one ++ next.entries) moved
          (subst (AllPairs (λ (x y : Moment × Event). x.0 ≢ y.0)) joined may.apart);
      after = all_left (λ (x : Moment × Event). ForSome next.last (λ last. before next.order last x.0)) one other
          (subst (λ (o : O). All (λ (x : Moment × Event). ForSome next.last (λ last. before o last x.0)) (one ++ other))
          (sym enters.order)
          (subst (λ l. All (λ (x : Moment × Event). ForSome l (λ last. before agenda.order last x.0)) (one ++ other))
          (sym enters.last) may.after));
      told = all_left (λ (x : Moment × Event). event_of x.0 ≡ x.1) one other may.told;
    }

-- what is put in by two parts is put in
pub enters-both : {O : Type 0} {agenda next new : Contents O Event} {one other : List (Moment × Event)}
    → Enters agenda next other → Enters next new one → Enters agenda new (one ++ other)
enters-both {O} {agenda} {next} {new} {one} {other} first second = record {
  entries = subst (λ (l : List (Moment × Event)). IsPermutation l new.entries)
      (sym (append_assoc one other agenda.entries))
      (IsPermutation-trans (one ++ (other ++ agenda.entries)) (one ++ next.entries) new.entries
      (IsPermutation-append_right one (other ++ agenda.entries) next.entries first.entries) second.entries);
  last = second.last ∙ first.last;
  capacity = second.capacity ∙ first.capacity;
  order = second.order ∙ first.order;
}

-- where there is an entry, what was asked of it as an option holds of a list of it
pub may-enter-some : {O : Type 0} {before : O → Moment → Moment → Type 0} {agenda : Contents O Event}
    {option : Option (Moment × Event)} {entry : Moment × Event} → option ≡ Some entry
    → MayEnter before agenda (option_to_list option) → MayEnter before agenda (entry ∷ [])
may-enter-some {O} {before} {agenda} is may =
    subst (λ (o : Option (Moment × Event)). MayEnter before agenda (option_to_list o)) is may

-- one entry that may be put in has another moment than each that is there
pub apart-first : {O : Type 0} {before : O → Moment → Moment → Type 0} {agenda : Contents O Event}
    {entry : Moment × Event} → MayEnter before agenda (entry ∷ [])
    → All (λ (y : Moment × Event). y.0 ≢ entry.0) agenda.entries
apart-first {O} {before} {agenda} {entry} may =
    All-weaker (λ (y : Moment × Event). entry.0 ≢ y.0) (λ (y : Moment × Event). y.0 ≢ entry.0)
    (λ y apart same. apart (sym same)) agenda.entries
    (pairs_head (λ (x y : Moment × Event). x.0 ≢ y.0) entry agenda.entries may.apart)

-- and is after the one popped last
pub after-first : {O : Type 0} {before : O → Moment → Moment → Type 0} {agenda : Contents O Event}
    {entry : Moment × Event} → MayEnter before agenda (entry ∷ [])
    → ForSome agenda.last (λ last. before agenda.order last entry.0)
after-first {O} {before} {agenda} {entry} may =
    All-head (λ (x : Moment × Event). ForSome agenda.last (λ last. before agenda.order last x.0)) entry [] may.after

-- in whichever order
may-enter-permuted : {O : Type 0} {before : O → Moment → Moment → Type 0} {agenda : Contents O Event}
    (one other : List (Moment × Event)) → IsPermutation one other → MayEnter before agenda one
    → MayEnter before agenda other
may-enter-permuted {O} {before} {agenda} one other moved may =
    let all = IsPermutation-append_left agenda.entries one other moved in
    record {
      room = omega (
        arith,
        may.room,
        length_permutation (one ++ agenda.entries) (other ++ agenda.entries) all,
      );
      apart = AllPairs-permutation (λ (x y : Moment × Event). x.0 ≢ y.0) (λ x y apart back. apart (sym back))
          (one ++ agenda.entries) (other ++ agenda.entries) all may.apart;
      after = All-permutation (λ (x : Moment × Event). ForSome agenda.last (λ last. before agenda.order last x.0)) one
          other moved may.after;
      told = All-permutation (λ (x : Moment × Event). event_of x.0 ≡ x.1) one other moved may.told;
    }

-- the first part of entries may be put in
pub may-enter-first : {O : Type 0} {before : O → Moment → Moment → Type 0} {agenda : Contents O Event}
    (one other : List (Moment × Event)) → MayEnter before agenda (one ++ other) → MayEnter before agenda one
may-enter-first one other may =
    may-enter-later other (may-enter-permuted (one ++ other) (other ++ one) (IsPermutation-append_comm one other) may)

-- and, when the ones before it are in, the next one
pub may-enter-next : {O : Type 0} {before : O → Moment → Moment → Type 0} {agenda next : Contents O Event}
    (front : List (Moment × Event)) (entry : Moment × Event) (others : List (Moment × Event))
    → MayEnter before agenda (front ++ entry ∷ others) → Enters agenda next front
    → MayEnter before next (entry ∷ [])
may-enter-next {O} {before} {agenda} {next} front entry others may enters =
    may-enter-first (entry ∷ []) others
    (may-enter-earlier {one = entry ∷ others} {other = front}
    (may-enter-permuted (front ++ entry ∷ others) ((entry ∷ others) ++ front)
    (IsPermutation-append_comm front (entry ∷ others)) may) enters)

-- which is put in behind them
pub enters-next : {O : Type 0} {agenda next new : Contents O Event} (front : List (Moment × Event))
    (entry : Moment × Event) → Enters agenda next front → Enters next new (entry ∷ [])
    → Enters agenda new (front ++ entry ∷ [])
enters-next {O} {agenda} {next} {new} front entry first second =
    let both : Enters agenda new ((entry ∷ []) ++ front) = enters-both first second in
    record {
      entries = IsPermutation-trans ((front ++ entry ∷ []) ++ agenda.entries) ((entry ∷ front) ++ agenda.entries)
          new.entries
          (IsPermutation-append_left agenda.entries (front ++ entry ∷ []) (entry ∷ front)
          (IsPermutation-append_comm front (entry ∷ []))) both.entries;
      last = both.last;
      capacity = both.capacity;
      order = both.order;
    }
