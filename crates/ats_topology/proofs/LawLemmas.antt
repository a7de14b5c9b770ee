use Rattle.std.proofs.Common.{◌≡◌, ℕ, zero, suc, ◌<◌, Bool, true, false, cond, List, [], ◌∷◌, length, Option, Some}
use Rattle.std.proofs.Common.{None, refl, sym, ap, ◌∙◌, arith, inl, inr, ◌⊎◌}
use Rattle.std.specs.Prelude.{IsTrue}
use Rattle.std.specs.Option.{option_or}
use Rattle.std.specs.Ordering.{nat_cmp, is_le, ordering_then}
use Rattle.std.specs.Cmp.Lexicographic.{slice_cmp}
use Rattle.std.specs.declared.cmp.Ordering.{Ordering}
use Rattle.std.specs.declared.cmp.Ordering.TheVariants.{Equal, Greater}
use Rattle.std.proofs.lemmas.Bool.{cases_order, false≢true}
use Rattle.std.proofs.lemmas.Bool.Decides.{nat_tests}
use Rattle.std.proofs.lemmas.Option.{same_Some, none-some}
use Rattle.ats_topology.specs.Laws.{LeastWalkIsOne, IsLeastBelow, FirstIsLeast}
use Rattle.ats_topology.specs.Faults.{first_below}
use Rattle.ats_topology.proofs.FirstBelow.{none_below}

-- two lists of which each comes no later than the other are the same
both_first : (xs ys : List ℕ) → length xs ≡ length ys → IsTrue (is_le (slice_cmp nat_cmp xs ys))
    → IsTrue (is_le (slice_cmp nat_cmp ys xs)) → xs ≡ ys
both_first [] [] long h g = refl
both_first [] (y ∷ ys) long h g = absurd (omega arith)
both_first (x ∷ xs) [] long h g = absurd (omega arith)
both_first (x ∷ xs) (y ∷ ys) long h g = by (cases_order x y) (both_first xs ys (omega arith))
  where
    not_greater : (m n : ℕ) (o : Ordering) → n < m → IsTrue (is_le (ordering_then (nat_cmp m n) o)) → ⊥
    not_greater m n o above f =
        let greater : nat_cmp m n ≡ Greater = grind (arith, nat_tests) in
        false≢true (sym (ap (λ (p : Ordering). is_le (ordering_then p o)) greater) ∙ f)

    later : (m n : ℕ) (o : Ordering) → m ≡ n → IsTrue (is_le (ordering_then (nat_cmp m n) o)) → IsTrue (is_le o)
    later m n o same f =
        let equal : nat_cmp m n ≡ Equal = grind (arith, nat_tests) in
        sym (ap (λ (p : Ordering). is_le (ordering_then p o)) equal) ∙ f

    by : (x ≡ y) ⊎ ((x < y) ⊎ (y < x))
        → (IsTrue (is_le (slice_cmp nat_cmp xs ys)) → IsTrue (is_le (slice_cmp nat_cmp ys xs)) → xs ≡ ys)
        → x ∷ xs ≡ y ∷ ys
    by (inl same) more = ap (λ (n : ℕ). n ∷ xs) same ∙ ap (λ (t : List ℕ). y ∷ t)
        (more (later x y (slice_cmp nat_cmp xs ys) same h) (later y x (slice_cmp nat_cmp ys xs) (sym same) g))
    by (inr (inl below)) more = absurd (not_greater y x (slice_cmp nat_cmp ys xs) below g)
    by (inr (inr above)) more = absurd (not_greater x y (slice_cmp nat_cmp xs ys) above h)

pub walk_is_one : LeastWalkIsOne
walk_is_one ports a b walk other l m =
    let long : length walk ≡ length other = omega (arith, l.least other m.walk_is, m.least walk l.walk_is) in
    both_first walk other long (l.first other m.walk_is (sym long)) (m.first walk l.walk_is long)

least_below : (test : ℕ → Bool) (n least : ℕ) → first_below test n ≡ Some least → IsLeastBelow test n least
least_below test zero least h = absurd (none-some least h)
least_below test (suc n) least h = by (first_below test n) refl h (least_below test n least)
  where
    here : (b : Bool) → test n ≡ b → first_below test n ≡ None → cond b (Some n) None ≡ Some least
        → IsLeastBelow test (suc n) least
    here true e none g =
        let same : n ≡ least = same_Some n least g in
        record {
          below = omega arith;
          passes = sym (ap test same) ∙ e;
          before = λ k below. none_below test n k none (omega arith);
        }
    here false e none g = absurd (none-some least g)

    by : (o : Option ℕ) → first_below test n ≡ o → option_or o (cond (test n) (Some n) None) ≡ Some least
        → (first_below test n ≡ Some least → IsLeastBelow test n least) → IsLeastBelow test (suc n) least
    by None e g more = here (test n) refl e g
    by (Some k) e g more =
        let l : IsLeastBelow test n least = more (e ∙ g) in
        record { below = omega (arith, l.below); passes = l.passes; before = l.before }

pub first_least : FirstIsLeast
first_least test n = (least_below test n, λ none k below. none_below test n k none below)
