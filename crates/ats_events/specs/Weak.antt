use Rattle.std.specs.Prelude.{◌≢◌}
use Rattle.std.proofs.Common.{subst, inl, inr}
use Rattle.ats_heap.specs.Order.{IsWeakOrder}
use Rattle.ats_events.specs.declared.moment.Moment.{Moment}
use Rattle.ats_events.specs.Order.{IsInRange, IsIrreflexive, IsTransitive, IsTotal}

-- of two different moments, one that the other is not before is before it
pub before_other : (before : Moment → Moment → Type 0) → IsTotal before → (a b : Moment) → IsInRange a → IsInRange b
    → ¬ before b a → a ≢ b → before a b
before_other before total a b ha hb n apart =
    elim (total a b ha hb apart) as (λ _. before a b) [ inl first ↦ first | inr second ↦ absurd (n second) ]

-- a lawful order of moments, of entries with any events, is one of a heap
pub before_weakly : {E : Type 0} (before : Moment → Moment → Type 0) → IsIrreflexive before → IsTransitive before
    → IsTotal before
    → IsWeakOrder (λ (x : Moment × E). IsInRange x.0) (λ (x y : Moment × E). before x.0 y.0)
before_weakly {E} before irreflexive transitive total =
    record {
      one_way = λ x y hx hy b c. irreflexive x.0 hx (transitive x.0 y.0 x.0 hx hy hx b c);
      handed_on = λ x y z hx hy hz n m b. (
          let never : x.0 ≢ y.0 = λ e. m (subst (λ (a : Moment). before z.0 a) e b) in
          let first : before x.0 y.0 = before_other before total x.0 y.0 hx hy n never in
          m (transitive z.0 x.0 y.0 hz hx hy b first));
    }
