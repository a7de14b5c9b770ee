use Rattle.std.specs.Prelude.{◌≡◌, ℕ, ◌<◌, ◌≤◌}
use Rattle.std.proofs.Common.{arith, inl, inr}
use Rattle.std.proofs.lemmas.Bool.{cases_lt}
use Rattle.ats_heap.specs.Order.{IsWeakOrder}
use Rattle.ats_queue.specs.declared.queued.Queued.{Queued}
use Rattle.ats_queue.specs.Order.{GoesBefore}

-- y is eligible no earlier than x, and at the same time with no lesser key
pub record ComesNoLater (key : ℕ → ℕ → ℕ) (x y : Queued) : Type 0 where
  pub eligible : x.eligible.0 ≤ y.eligible.0
  pub tie : x.eligible.0 ≡ y.eligible.0 → key x.sender x.frame ≤ key y.sender y.frame

pub comes_no_later : (key : ℕ → ℕ → ℕ) (x y : Queued) → ¬ GoesBefore key y x → ComesNoLater key x y
comes_no_later key x y n =
    record {
      eligible = (elim (cases_lt y.eligible.0 x.eligible.0) as (λ _. x.eligible.0 ≤ y.eligible.0) [
        | inl less ↦ absurd (n (record { eligible = omega arith; tie = λ e. absurd (omega arith) }))
        | inr more ↦ omega arith
      ]);
      tie = λ e. (elim (cases_lt (key y.sender y.frame) (key x.sender x.frame)) as (λ _. key x.sender x.frame
          ≤ key y.sender y.frame) [
            | inl less ↦ absurd (n (record { eligible = omega arith; tie = λ f. less }))
            | inr more ↦ omega arith
          ]);
    }

-- the order of a class queue is one of a heap, whatever the key
pub goes_before_weakly : (key : ℕ → ℕ → ℕ) → IsWeakOrder (λ (_ : Queued). Unit {0}) (GoesBefore key)
goes_before_weakly key =
    record {
      one_way = λ x y hx hy b c. (
          let e : x.eligible.0 ≡ y.eligible.0 = omega arith in
          let f : y.eligible.0 ≡ x.eligible.0 = omega arith in
          let less : key x.sender x.frame < key y.sender y.frame = b.tie e in
          let more : key y.sender y.frame < key x.sender x.frame = c.tie f in
          omega arith);
      handed_on = λ x y z hx hy hz n m b. (
          let xy = comes_no_later key x y n in
          let yz = comes_no_later key y z m in
          let zx : z.eligible.0 ≤ x.eligible.0 = b.eligible in
          let e : x.eligible.0 ≡ y.eligible.0 = omega (arith, xy.eligible, yz.eligible) in
          let f : y.eligible.0 ≡ z.eligible.0 = omega (arith, xy.eligible, yz.eligible) in
          let d : z.eligible.0 ≡ x.eligible.0 = omega arith in
          omega (arith, xy.tie e, yz.tie f, b.tie d));
    }
