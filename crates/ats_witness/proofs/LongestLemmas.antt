-- The greatest delay, from the fold over frames.
use Rattle.std.proofs.Common.{◌≡◌, ◌↔◌, ℕ, zero, suc, ◌-◌, ◌<◌, ◌≤◌, ◌⊎◌, inl, inr, true, false, List, [], ◌∷◌}
use Rattle.std.proofs.Common.{get_or, fold, length, Option, Some, None, refl, sym, ap, subst, ◌∙◌, arith, eqb}
use Rattle.std.specs.Prelude.{max, IsNone, IfSome}
use Rattle.std.specs.List.{Contains}
use Rattle.std.proofs.lemmas.Bool.{cases_Bool, cases_lt, cond-true, cond-false, eq-eqb, eqb-true, true≢false}
use Rattle.std.proofs.lemmas.Option.{none-some, same_Some}
use Rattle.ats_trace.specs.Journey.{Travel}
use Rattle.ats_trace.specs.Stored.{leg_in}
use Rattle.ats_trace.specs.declared.journey.Ending.{Ending}
use Rattle.ats_trace.specs.declared.journey.Ending.TheVariants.{Sink, Discard}
use Rattle.ats_witness.specs.Delay.{ArrivedAfter, IsGreatestDelay, NoneArrived}
use Rattle.ats_witness.specs.Longest.{greater, longest_of, took_from, took_of}

-- a number is there, and is at least this one
abbrev Reaches : ℕ → Option ℕ → Type 0
Reaches n None = ⊥
Reaches n (Some m) = n ≤ m

-- the greatest so far with one frame more
abbrev step : ℕ → ℕ → Option ℕ → Travel → Option ℕ
step sender listener longest j = greater longest (took_of sender listener j)

reaches_left : (n : ℕ) (a b : Option ℕ) → Reaches n a → Reaches n (greater a b)
reaches_left n None b h = absurd h
reaches_left n (Some m) None h = h
reaches_left n (Some m) (Some k) h = omega (arith, h)

reaches_right : (n : ℕ) (a : Option ℕ) → Reaches n (greater a (Some n))
reaches_right n None = omega arith
reaches_right n (Some m) = omega arith

-- what is reached stays so with more frames
reaches_more : (sender listener n : ℕ) (o : Option ℕ) (run : List Travel) → Reaches n o
    → Reaches n (fold (step sender listener) o run)
reaches_more sender listener n o [] h = h
reaches_more sender listener n o (j ∷ run) h =
    reaches_more sender listener n (step sender listener o j) run (reaches_left n o (took_of sender listener j) h)

-- and what each frame took is
reaches_each : (sender listener n : ℕ) (o : Option ℕ) (run : List Travel) (k : ℕ) (j : Travel) → k < length run
    → get_or run k j ≡ j → took_of sender listener j ≡ Some n
    → Reaches n (fold (step sender listener) o run)
reaches_each sender listener n o [] k j h at took = absurd (omega (arith, h))
reaches_each sender listener n o (i ∷ run) zero j h at took =
    let here : took_of sender listener i ≡ Some n = ap (λ (t : Travel). took_of sender listener t) at ∙ took in
    reaches_more sender listener n (step sender listener o i) run
    (subst (λ (x : Option ℕ). Reaches n (greater o x)) (sym here) (reaches_right n o))
reaches_each sender listener n o (i ∷ run) (suc k) j h at took =
    reaches_each sender listener n (step sender listener o i) run k j (omega arith) at took

-- the greater of two is one of them
greater_one : (a b : Option ℕ) (n : ℕ) → greater a b ≡ Some n → (a ≡ Some n) ⊎ (b ≡ Some n)
greater_one None b n h = inr h
greater_one (Some m) None n h = inl h
greater_one (Some m) (Some k) n h = elim (max_one m k) as (λ _. (Some m ≡ Some n) ⊎ (Some k ≡ Some n)) [
  | inl left ↦ inl (ap (λ (x : ℕ). Some x) (sym left) ∙ h)
  | inr right ↦ inr (ap (λ (x : ℕ). Some x) (sym right) ∙ h)
]
  where
    max_one : (m k : ℕ) → (max m k ≡ m) ⊎ (max m k ≡ k)
    max_one m k = elim (cases_lt m k) as (λ _. (max m k ≡ m) ⊎ (max m k ≡ k)) [
      | inl less ↦ inr (omega arith)
      | inr more ↦ inl (omega arith)
    ]

-- a frame of the run took so long
abbrev SomeTook : ℕ → ℕ → List Travel → ℕ → Type 0
SomeTook sender listener run n = (j : Travel) × Contains run j × (took_of sender listener j ≡ Some n)

later : (sender listener n : ℕ) (j : Travel) (run : List Travel) → SomeTook sender listener run n
    → SomeTook sender listener (j ∷ run) n
later sender listener n j run one = (one.0, (suc one.1.0, omega (arith, one.1.1), one.1.2), one.2)

one_took : (sender listener n : ℕ) (o : Option ℕ) (run : List Travel) → fold (step sender listener) o run ≡ Some n
    → (o ≡ Some n) ⊎ SomeTook sender listener run n
one_took sender listener n o [] h = inl h
one_took sender listener n o (j ∷ run) h =
    elim (one_took sender listener n (step sender listener o j) run h)
    as (λ _. (o ≡ Some n) ⊎ SomeTook sender listener (j ∷ run) n) [
      | inl first ↦ elim (greater_one o (took_of sender listener j) n first)
          as (λ _. (o ≡ Some n) ⊎ SomeTook sender listener (j ∷ run) n) [
            | inl before ↦ inl before
            | inr here ↦ inr (j, (0, omega arith, refl), here)
          ]
      | inr more ↦ inr (later sender listener n j run more)
    ]

-- what a frame took by its row, and in words
took_arrived : (sender listener n : ℕ) (run : List Travel) (j : Travel) → ArrivedAfter run sender listener n j
    → took_of sender listener j ≡ Some n
took_arrived sender listener n run j a =
    cond-true (eqb j.release.sender sender) (took_from j.release.at.0 (leg_in j listener).ending) None
    (eq-eqb j.release.sender sender a.sent)
    ∙ ap (took_from j.release.at.0) a.arrived ∙ ap (λ (x : ℕ). Some x) (sym a.after)

arrived_ending : (sender listener n : ℕ) (run : List Travel) (j : Travel) (ending : Ending) → Contains run j
    → j.release.sender ≡ sender → (leg_in j listener).ending ≡ ending → took_from j.release.at.0 ending ≡ Some n
    → ArrivedAfter run sender listener n j
arrived_ending sender listener n run j (Sink at) there own is h = record {
  there = there;
  sent = own;
  at = at;
  arrived = is;
  after = sym (same_Some (at.0 - j.release.at.0) n h);
}
arrived_ending sender listener n run j Discard there own is h = absurd (none-some n h)

arrived_took : (sender listener n : ℕ) (run : List Travel) (j : Travel) → Contains run j
    → took_of sender listener j ≡ Some n → ArrivedAfter run sender listener n j
arrived_took sender listener n run j there h =
    elim (cases_Bool (eqb j.release.sender sender)) as (λ _. ArrivedAfter run sender listener n j) [
      | inl own ↦ arrived_ending sender listener n run j ending there (eqb-true j.release.sender sender own) refl
          (sym (cond-true (eqb j.release.sender sender) (took_from j.release.at.0 ending) None own) ∙ h)
      | inr other ↦ absurd (none-some n
          (sym (cond-false (eqb j.release.sender sender) (took_from j.release.at.0 ending) None other) ∙ h))
    ]
  where
    ending : Ending
    ending = (leg_in j listener).ending

most : (sender listener n m : ℕ) (run : List Travel) (j : Travel) → longest_of sender listener run ≡ Some m
    → ArrivedAfter run sender listener n j → n ≤ m
most sender listener n m run j h a =
    let there : Contains run j = a.there in
    subst (Reaches n) h
    (reaches_each sender listener n None run there.0 j there.1 there.2 (took_arrived sender listener n run j a))

none_none : {X : Type 0} (o : Option X) → IsNone o → o ≡ None
none_none None h = refl
none_none (Some x) h = absurd (true≢false h)

-- the fold is the greatest delay
pub longest_greatest : (run : List Travel) (sender listener : ℕ) (o : Option ℕ)
    → o ≡ longest_of sender listener run → IfSome o (IsGreatestDelay run sender listener)
longest_greatest run sender listener None h = tt
longest_greatest run sender listener (Some m) h = by (one_took sender listener m None run (sym h))
  where
    by : (None ≡ Some m) ⊎ SomeTook sender listener run m → IsGreatestDelay run sender listener m
    by (inl none) = absurd (none-some m none)
    by (inr one) = record {
      journey = one.0;
      one = arrived_took sender listener m run one.0 one.1 one.2;
      none_longer = λ took other a. most sender listener took m run other (sym h) a;
    }

-- and there is none exactly where no frame arrived
pub longest_none : (run : List Travel) (sender listener : ℕ) (o : Option ℕ)
    → o ≡ longest_of sender listener run → IsNone o ↔ NoneArrived run sender listener
longest_none run sender listener o h = (none, back o h)
  where
    none : IsNone o → NoneArrived run sender listener
    none is took j a =
        let there : Contains run j = a.there in
        subst (Reaches took) (sym h ∙ none_none o is)
        (reaches_each sender listener took None run there.0 j there.1 there.2
        (took_arrived sender listener took run j a))

    back : (o : Option ℕ) → o ≡ longest_of sender listener run → NoneArrived run sender listener → IsNone o
    back None h arrived = refl
    back (Some m) h arrived = by (one_took sender listener m None run (sym h))
      where
        by : (None ≡ Some m) ⊎ SomeTook sender listener run m → true ≡ false
        by (inl one) = absurd (none-some m one)
        by (inr one) = absurd (arrived m one.0 (arrived_took sender listener m run one.0 one.1 one.2))
