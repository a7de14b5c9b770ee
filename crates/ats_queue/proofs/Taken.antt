use Rattle.std.proofs.Common.{◌≡◌, ◌≢◌, ℕ, ◌≤◌, List, ◌∷◌, get_or, All, sym, arith, suc, refl, subst}
use Rattle.std.proofs.Common.{Option, Some, None}
use Rattle.std.specs.Prelude.{IsPermutation, IfSome, IfNone}
use Rattle.std.proofs.lemmas.List.Elements.{All-tail, All-head, All-cons}
use Rattle.std.proofs.lemmas.List.Sorted.{All-permutation, IsPermutation-sym}
use Rattle.ats_num.specs.Tie.{AreDistinct as KeysAreDistinct}
use Rattle.ats_heap.specs.Contents.{Contents}
use Rattle.ats_heap.specs.Steps.{Pops, IsFirst}
use Rattle.ats_facts.proofs.Pairs.{pairs_more, pairs_less}
use Rattle.ats_queue.specs.declared.queued.Queued.{Queued}
use Rattle.ats_queue.specs.Order.{GoesBefore, Takes}
use Rattle.ats_queue.specs.Inside.{IsInRange, IsKept}
use Rattle.ats_queue.specs.Weak.{comes_no_later}

-- of two frames with different keys, one that the other does not go before goes before it
strictly : (key : ℕ → ℕ → ℕ) (x y : Queued) → ¬ GoesBefore key y x → key x.sender x.frame ≢ key y.sender y.frame
    → GoesBefore key x y
strictly key x y n apart =
    let later = comes_no_later key x y n in
    record { eligible = later.eligible; tie = λ e. omega (arith, later.tie e, apart) }

-- a queue holds one frame more
pub kept-insert : (x : Queued) (old new : List Queued) → IsPermutation (x ∷ old) new → IsInRange x
    → All (λ (y : Queued). y.frame ≢ x.frame) old → IsKept old → IsKept new
kept-insert x old new moved range apart kept =
    record {
      distinct = pairs_more (λ (y z : Queued). y.frame ≢ z.frame) (λ y z n e. n (sym e)) x old new moved
          (λ k d h e. apart k d h (sym e)) kept.distinct;
      in_range = All-permutation IsInRange (x ∷ old) new moved (All-cons IsInRange x old range kept.in_range);
    }

-- a queue holds one frame less, or the same
pub kept-take : {O : Type 0} (r : Option Queued) (before : Queued → Queued → Type 0) (old new : Contents Queued O)
    → IfSome r (Pops before old.items new.items) → IfNone r (new ≡ old) → IsKept old.items → IsKept new.items
kept-take {O} None before old new pops same kept =
    subst (λ (c : Contents Queued O). IsKept c.items) (sym same) kept
kept-take (Some x) before old new pops same kept =
    record {
      distinct = (pairs_less (λ (y z : Queued). y.frame ≢ z.frame) (λ y z n e. n (sym e)) x old.items new.items
          pops.items kept.distinct).1;
      in_range = All-tail IsInRange x new.items
          (All-permutation IsInRange old.items (x ∷ new.items) pops.items kept.in_range);
    }

-- a queue gives up the first frame of its heap
pub takes_first : (key : ℕ → ℕ → ℕ) (now : ℕ) (old new : List Queued) (first x : Queued) → KeysAreDistinct key
    → IsKept old → IsFirst (GoesBefore key) old first → first.eligible.0 ≤ now → Pops (GoesBefore key) old new x
    → Takes key now old new x
takes_first key now old new first x keys kept is eligible pops =
    let range = All-permutation IsInRange old (x ∷ new) pops.items kept.in_range in
    let here = All-head IsInRange x new range in
    let apart = (pairs_less (λ (y z : Queued). y.frame ≢ z.frame) (λ y z n e. n (sym e)) x old new pops.items
    kept.distinct).0 in
    let Later : Queued → Type 0 = λ y. ¬ GoesBefore key y x in
    let itself : Later x = λ b. omega (arith, b.tie refl) in
    let none = All-permutation Later (x ∷ new) old (IsPermutation-sym _ _ pops.items)
    (All-cons Later x new itself pops.first) in
    let not_before : Later first = subst Later is.among.2 (none is.among.0 first is.among.1) in
    record {
      held = pops.items;
      eligible = omega (arith, (comes_no_later key x first not_before).eligible);
      first = λ k d h. (
          let there = range (suc k) d (omega arith) in
          strictly key x (get_or new k d) (pops.first k d h)
          (keys _ _ _ _ here.sender there.sender here.frame there.frame (apart k d h)));
    }
