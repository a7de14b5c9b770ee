use Rattle.std.proofs.Common.{◌≡◌, List, ◌∷◌, All, Option, Some, subst, sym}
use Rattle.std.specs.Prelude.{◌≢◌, IsPermutation}
use Rattle.std.specs.Option.{ForSome}
use Rattle.std.proofs.lemmas.List.Elements.{All-cons, All-head, All-tail}
use Rattle.std.proofs.lemmas.List.Sorted.{All-permutation}
use Rattle.ats_heap.specs.Steps.{Pops as HeapPops}
use Rattle.ats_facts.proofs.Pairs.{pairs_more, pairs_less}
use Rattle.ats_events.specs.declared.moment.Moment.{Moment}
use Rattle.ats_events.specs.Order.{IsInRange, IsTotal}
use Rattle.ats_events.specs.Inside.{IsKept}
use Rattle.ats_events.specs.Weak.{before_other}

-- no entry stays that the first one of the heap is not before
pub before_rest : {E : Type 0} (before : Moment → Moment → Type 0) (old new : List (Moment × E)) (x : Moment × E)
    (last : Option Moment) → IsTotal before → IsKept before old last
    → HeapPops (λ (y z : Moment × E). before y.0 z.0) old new x → All (λ (y : Moment × E). before x.0 y.0) new
before_rest {E} before old new x last total kept pops k d h =
    let range = All-permutation (λ (y : Moment × E). IsInRange y.0) old (x ∷ new) pops.items kept.in_range in
    let here = All-head (λ (y : Moment × E). IsInRange y.0) x new range in
    let there = All-tail (λ (y : Moment × E). IsInRange y.0) x new range in
    let apart = (pairs_less (λ (y z : Moment × E). y.0 ≢ z.0) (λ y z n e. n (sym e)) x old new pops.items
    kept.distinct).0 in
    before_other before total _ _ here (there k d h) (pops.first k d h) (apart k d h)

-- an agenda with one entry less, which was popped last
pub kept-pop : {E : Type 0} (before : Moment → Moment → Type 0) (old new : List (Moment × E)) (x : Moment × E)
    (last : Option Moment) → IsTotal before → IsKept before old last
    → HeapPops (λ (y z : Moment × E). before y.0 z.0) old new x → IsKept before new (Some x.0)
kept-pop {E} before old new x last total kept pops =
    let Before : Moment → Type 0 = λ m. All (λ (y : Moment × E). before m y.0) new in
    let range = All-permutation (λ (y : Moment × E). IsInRange y.0) old (x ∷ new) pops.items kept.in_range in
    record {
      distinct = (pairs_less (λ (y z : Moment × E). y.0 ≢ z.0) (λ y z n e. n (sym e)) x old new pops.items
          kept.distinct).1;
      in_range = All-tail (λ (y : Moment × E). IsInRange y.0) x new range;
      after = λ m e. (let same : x.0 ≡ m = cc in
          subst Before same (before_rest before old new x last total kept pops));
    }

-- an agenda with one entry more, after the one popped last
pub kept-insert : {E : Type 0} (before : Moment → Moment → Type 0) (old new : List (Moment × E)) (x : Moment × E)
    (last : Option Moment) → IsPermutation (x ∷ old) new → IsInRange x.0
    → All (λ (y : Moment × E). y.0 ≢ x.0) old → ForSome last (λ m. before m x.0) → IsKept before old last
    → IsKept before new last
kept-insert {E} before old new x last moved range apart after kept =
    record {
      distinct = pairs_more (λ (y z : Moment × E). y.0 ≢ z.0) (λ y z n e. n (sym e)) x old new moved
          (λ k d h e. apart k d h (sym e)) kept.distinct;
      in_range = All-permutation (λ (y : Moment × E). IsInRange y.0) (x ∷ old) new moved
          (All-cons (λ (y : Moment × E). IsInRange y.0) x old range kept.in_range);
      after = λ m e. All-permutation (λ (y : Moment × E). before m y.0) (x ∷ old) new moved
          (All-cons (λ (y : Moment × E). before m y.0) x old (after m e) (kept.after m e));
    }
