-- Facts of lists: what filtered and mapped lists have, and of pairs of their elements.
use Rattle.std.proofs.Common.{◌≡◌, ℕ, zero, suc, ◌<◌, Bool, true, List, [], ◌∷◌, length, get_or, map, filter}
use Rattle.std.proofs.Common.{refl, sym, ap, ◌∙◌, subst, arith}
use Rattle.std.specs.Prelude.{◌&&◌, AllPairs, Contains}
use Rattle.std.proofs.lemmas.Bool.{cases_Bool, cond-true, cond-false, true≢false}
use Rattle.std.proofs.lemmas.List.{get_or-map, length-map}
use Rattle.std.proofs.Common.{false, inl, inr}

-- both of two tests that pass together pass
pub and-left : (a b : Bool) → (a && b) ≡ true → a ≡ true
and-left true b passes = refl
and-left false b passes = absurd (true≢false (sym passes))

pub and-right : (a b : Bool) → (a && b) ≡ true → b ≡ true
and-right true b passes = passes
and-right false b passes = absurd (true≢false (sym passes))

-- the image of what a list has is in the list of images
pub contains-map : {X Y : Type 0} (f : X → Y) (xs : List X) (x : X) → Contains xs x → Contains (map f xs) (f x)
contains-map f xs x has =
    let long = length-map xs f in
    (has.0, omega (arith, long, has.1), get_or-map f xs has.0 x (f x) has.1 ∙ ap f has.2)

-- what a list has and passes a test is among those that pass
pub contains-filter : {X : Type 0} (test : X → Bool) (xs : List X) (x : X) → Contains xs x → test x ≡ true
    → Contains (filter test xs) x
contains-filter test [] x has passes = absurd (omega (arith, has.1))
contains-filter {X} test (y ∷ xs) x has passes =
    by (λ k within same. contains-filter test xs x (k, within, same) passes) has.0 has.1 has.2
  where
    further : Contains (filter test xs) x → Contains (filter test (y ∷ xs)) x
    further kept = elim (cases_Bool (test y)) as (λ _. Contains (filter test (y ∷ xs)) x) [
      | inl e ↦ subst (λ (l : List X). Contains l x) (sym (cond-true (test y) (y ∷ filter test xs) (filter test xs) e))
          (suc kept.0, omega (arith, kept.1), kept.2)
      | inr e ↦ subst (λ (l : List X). Contains l x) (sym (cond-false (test y) (y ∷ filter test xs) (filter test xs) e))
          kept
    ]

    by : ((k : ℕ) → k < length xs → get_or xs k x ≡ x → Contains (filter test xs) x) → (k : ℕ)
        → k < length (y ∷ xs) → get_or (y ∷ xs) k x ≡ x → Contains (filter test (y ∷ xs)) x
    by rest zero within same =
        subst (λ (l : List X). Contains l x)
        (sym (cond-true (test y) (y ∷ filter test xs) (filter test xs) (ap test same ∙ passes)))
        (0, omega arith, same)
    by rest (suc k) within same = further (rest k (omega arith) same)

-- what relates the images of each two elements relates each two images
pub pairs-map : {X Y : Type 0} (R : Y → Y → Type 0) (f : X → Y) (xs : List X)
    → AllPairs (λ (a b : X). R (f a) (f b)) xs → AllPairs R (map f xs)
pairs-map R f [] pairs i j d before within = absurd (omega arith)
pairs-map {X} R f (x ∷ xs) pairs i j d before within =
    let long = length-map (x ∷ xs) f in
    let first = get_or-map f (x ∷ xs) i x d (omega (arith, long)) in
    let second = get_or-map f (x ∷ xs) j x d (omega (arith, long)) in
    subst (λ a. R a (get_or (map f (x ∷ xs)) j d)) (sym first)
    (subst (λ b. R (f (get_or (x ∷ xs) i x)) b) (sym second) (pairs i j x before (omega (arith, long))))
