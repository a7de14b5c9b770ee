use Rattle.std.proofs.Common.{◌≡◌, ℕ, List, [], ◌∷◌, ◌++◌, All, Option, Some, None, subst, arith, append-nil}
use Rattle.std.specs.Prelude.{AllPairs, IsPermutation}
use Rattle.std.specs.Option.{ForSome}
use Rattle.std.proofs.lemmas.List.Elements.{All-cons, All-head, All-tail}
use Rattle.std.proofs.lemmas.List.Kept.{AllPairs-cons}
use Rattle.std.proofs.lemmas.List.Sorted.{All-permutation, IsPermutation-refl, IsPermutation-trans, IsPermutation-cons}
use Rattle.std.proofs.lemmas.List.Sorted.{IsPermutation-middle, IsPermutation-append_left}
use Rattle.ats_events.specs.declared.moment.Moment.{Moment}
use Rattle.ats_events.specs.Order.{IsInRange, IsTransitive}
use Rattle.ats_events.specs.Contents.{Contents, opened}
use Rattle.ats_events.specs.Steps.{Inserts, Pops}
use Rattle.ats_events.specs.Inside.{AreInRange}
use Rattle.ats_events.specs.History.{Step, MakeInTurn, inserted_of, popped_of}
use Rattle.ats_events.specs.History.Step.{Insert, Pop}

-- all entries are after the last popped moment, and all moments are in range
record IsReady {O E : Type 0} (before : Moment → Moment → Type 0) (agenda : Contents O E) : Type 0 where
  entries : AreInRange agenda.entries
  last : ForSome agenda.last IsInRange
  after : ForSome agenda.last (λ (m : Moment). All (λ (x : Moment × E). before m x.0) agenda.entries)

ready-open : {O E : Type 0} (before : Moment → Moment → Type 0) (capacity : ℕ) (order : O)
    → IsReady {O = O} {E = E} before (opened capacity order)
ready-open before capacity order =
    record { entries = λ k d h. absurd (omega arith); last = λ m e. absurd (cc); after = λ m e. absurd (cc) }

ready-insert : {O E : Type 0} (before : Moment → Moment → Type 0) (old new : Contents O E) (entry : Moment × E)
    → IsInRange entry.0 → Inserts before old new entry → IsReady before old → IsReady before new
ready-insert {O} {E} before old new entry range inserts ready =
    record {
      entries = All-permutation (λ (x : Moment × E). IsInRange x.0) (entry ∷ old.entries) new.entries inserts.entries
          (All-cons (λ (x : Moment × E). IsInRange x.0) entry old.entries range ready.entries);
      last = rw inserts.last ready.last;
      after = rw inserts.last
          (λ m e. All-permutation (λ (x : Moment × E). before m x.0) (entry ∷ old.entries) new.entries inserts.entries
          (All-cons (λ (x : Moment × E). before m x.0) entry old.entries (inserts.after m e) (ready.after m e)));
    }

-- a popped entry was one of those that were there
popped : {O E : Type 0} (before : Moment → Moment → Type 0) (P : Moment × E → Type 0) (old new : Contents O E)
    (entry : Moment × E) → Pops before old new entry → All P old.entries → All P (entry ∷ new.entries)
popped {O} {E} before P old new entry pops all = All-permutation P old.entries (entry ∷ new.entries) pops.entries all

ready-pop : {O E : Type 0} (before : Moment → Moment → Type 0) (old new : Contents O E) (entry : Moment × E)
    → Pops before old new entry → IsReady before old → IsReady before new
ready-pop {O} {E} before old new entry pops ready =
    let range = popped before (λ (x : Moment × E). IsInRange x.0) old new entry pops ready.entries in
    let Before : Moment → Type 0 = λ m. All (λ (x : Moment × E). before m x.0) new.entries in
    let same : (m : Moment) → new.last ≡ Some m → entry.0 ≡ m = λ m e. (let last = pops.last in cc) in
    record {
      entries = All-tail (λ (x : Moment × E). IsInRange x.0) entry new.entries range;
      last = λ m e. subst IsInRange (same m e) (All-head (λ (x : Moment × E). IsInRange x.0) entry new.entries range);
      after = λ m e. subst Before (same m e) pops.first;
    }

-- these entries are popped in this order, after this moment
record IsAscending {E : Type 0} (before : Moment → Moment → Type 0) (last : Option Moment)
    (entries : List (Moment × E)) : Type 0 where
  pairs : AllPairs (λ (x y : Moment × E). before x.0 y.0) entries
  after : ForSome last (λ (m : Moment). All (λ (x : Moment × E). before m x.0) entries)
  in_range : AreInRange entries

ascending-pop : {O E : Type 0} (before : Moment → Moment → Type 0) (old new : Contents O E) (entry : Moment × E)
    (entries : List (Moment × E)) → IsTransitive before → IsReady before old → Pops before old new entry
    → IsAscending before new.last entries → IsAscending before old.last (entry ∷ entries)
ascending-pop {O} {E} before old new entry entries joined ready pops ascending =
    let range = All-head (λ (x : Moment × E). IsInRange x.0) entry new.entries
    (popped before (λ (x : Moment × E). IsInRange x.0) old new entry pops ready.entries) in
    let later : All (λ (x : Moment × E). before entry.0 x.0) entries = ascending.after entry.0 pops.last in
    let first : (m : Moment) → old.last ≡ Some m → before m entry.0 = λ m e.
    All-head (λ (x : Moment × E). before m x.0) entry new.entries
    (popped before (λ (x : Moment × E). before m x.0) old new entry pops (ready.after m e)) in
    record {
      pairs = AllPairs-cons (λ (x y : Moment × E). before x.0 y.0) entry entries later ascending.pairs;
      after = λ m e. All-cons (λ (x : Moment × E). before m x.0) entry entries (first m e)
          (λ k d h. joined m entry.0 _ (ready.last m e) range (ascending.in_range k d h) (first m e) (later k d h));
      in_range = All-cons (λ (x : Moment × E). IsInRange x.0) entry entries range ascending.in_range;
    }

-- what is popped from an agenda on ascends
ascends : {O E : Type 0} (before : Moment → Moment → Type 0) (old now : Contents O E) (steps : List (Step E))
    → IsTransitive before → IsReady before old → AreInRange (inserted_of steps) → MakeInTurn before old steps now
    → IsAscending before old.last (popped_of steps)
ascends {O} {E} before old now [] joined ready range made =
    record {
      pairs = λ i j d less h. absurd (omega arith);
      after = λ m e k d h. absurd (omega arith);
      in_range = λ k d h. absurd (omega arith);
    }
ascends {O} {E} before old now (Insert entry ∷ steps) joined ready range made =
    let next = made.0 in
    let head = All-head (λ (x : Moment × E). IsInRange x.0) entry (inserted_of steps) range in
    let tail = All-tail (λ (x : Moment × E). IsInRange x.0) entry (inserted_of steps) range in
    let rest =
    ascends before next now steps joined (ready-insert before old next entry head made.1 ready) tail made.2 in
    rw (← made.1.last) rest
ascends {O} {E} before old now (Pop (Some entry) ∷ steps) joined ready range made =
    let next = made.0 in
    ascending-pop before old next entry (popped_of steps) joined ready made.1
    (ascends before next now steps joined (ready-pop before old next entry made.1 ready) range made.2)
ascends {O} {E} before old now (Pop None ∷ steps) joined ready range made =
    let Made : Contents O E → Type 0 = λ agenda. MakeInTurn before agenda steps now in
    ascends before old now steps joined ready range (subst Made made.1.1 made.2)

-- what was there and was inserted is what was popped and what is there
rest : {O E : Type 0} (before : Moment → Moment → Type 0) (old now : Contents O E) (steps : List (Step E))
    → MakeInTurn before old steps now
    → IsPermutation (old.entries ++ inserted_of steps) (popped_of steps ++ now.entries)
rest {O} {E} before old now [] made =
    rw (append-nil, made) (IsPermutation-refl old.entries)
rest {O} {E} before old now (Insert entry ∷ steps) made =
    let next = made.0 in
    IsPermutation-trans _ _ _ (IsPermutation-middle old.entries entry (inserted_of steps))
    (IsPermutation-trans _ _ _ (IsPermutation-append_left (inserted_of steps) (entry ∷ old.entries)
    next.entries made.1.entries) (rest before next now steps made.2))
rest {O} {E} before old now (Pop (Some entry) ∷ steps) made =
    let next = made.0 in
    IsPermutation-trans _ _ _
    (IsPermutation-append_left (inserted_of steps) old.entries (entry ∷ next.entries) made.1.entries)
    (IsPermutation-cons entry _ _ (rest before next now steps made.2))
rest {O} {E} before old now (Pop None ∷ steps) made =
    let Made : Contents O E → Type 0 = λ agenda. MakeInTurn before agenda steps now in
    rest before old now steps (subst Made made.1.1 made.2)

pub pops_ascend : {O E : Type 0} (before : Moment → Moment → Type 0) (capacity : ℕ)
    (order : O) (steps : List (Step E)) (now : Contents O E) → IsTransitive before
    → AreInRange (inserted_of steps) → MakeInTurn before (opened capacity order) steps now
    → AllPairs (λ (x y : Moment × E). before x.0 y.0) (popped_of steps)
pops_ascend {O} {E} before capacity order steps now joined range made =
    (ascends before (opened capacity order) now steps joined (ready-open {O = O} {E = E} before capacity order)
    range made).pairs

pub entries_are_the_rest : {O E : Type 0} (before : Moment → Moment → Type 0) (capacity : ℕ) (order : O)
    (steps : List (Step E)) (now : Contents O E) → MakeInTurn before (opened capacity order) steps now
    → IsPermutation (inserted_of steps) (popped_of steps ++ now.entries)
entries_are_the_rest before capacity order steps now made = rest before (opened capacity order) now steps made
