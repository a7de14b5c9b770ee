use Rattle.std.proofs.Common.{◌≡◌, ℕ, ◌<◌, List, [], ◌∷◌, length, refl, sym, ap, ◌∙◌, arith, inl, inr, ◌⊎◌}
use Rattle.std.specs.Prelude.{IsTrue}
use Rattle.std.specs.Ordering.{nat_cmp, is_le, ordering_then}
use Rattle.std.specs.Cmp.Lexicographic.{slice_cmp}
use Rattle.std.specs.declared.cmp.Ordering.{Ordering}
use Rattle.std.specs.declared.cmp.Ordering.TheVariants.{Less, Equal, Greater}
use Rattle.std.proofs.lemmas.Bool.{cases_order, false≢true}
use Rattle.std.proofs.lemmas.Bool.Decides.{nat_tests}
use Rattle.ats_plain_law.specs.Walks.{GoesFirst, WalksArePlain}

-- Which walk is the least.

not_greater : (m n : ℕ) (o : Ordering) → n < m → IsTrue (is_le (ordering_then (nat_cmp m n) o)) → ⊥
not_greater m n o above f =
    let greater : nat_cmp m n ≡ Greater = grind (arith, nat_tests) in
    false≢true (sym (ap (λ (p : Ordering). is_le (ordering_then p o)) greater) ∙ f)

later : (m n : ℕ) (o : Ordering) → m ≡ n → IsTrue (is_le (ordering_then (nat_cmp m n) o)) → IsTrue (is_le o)
later m n o same f =
    let equal : nat_cmp m n ≡ Equal = grind (arith, nat_tests) in
    sym (ap (λ (p : Ordering). is_le (ordering_then p o)) equal) ∙ f

-- a list that comes no later than another of its length takes the lower number where they first part
goes_first : (xs ys : List ℕ) → length ys ≡ length xs → IsTrue (is_le (slice_cmp nat_cmp xs ys)) → GoesFirst xs ys
goes_first [] ys long h = tt
goes_first (x ∷ xs) [] long h = absurd (omega (arith, long))
goes_first (x ∷ xs) (y ∷ ys) long h = by (cases_order x y) (goes_first xs ys (omega (arith, long)))
  where
    by : (x ≡ y) ⊎ ((x < y) ⊎ (y < x)) → (IsTrue (is_le (slice_cmp nat_cmp xs ys)) → GoesFirst xs ys)
        → (x < y) ⊎ ((x ≡ y) × GoesFirst xs ys)
    by (inl same) more = inr (same, more (later x y (slice_cmp nat_cmp xs ys) same h))
    by (inr (inl below)) more = inl below
    by (inr (inr above)) more = absurd (not_greater x y (slice_cmp nat_cmp xs ys) above h)

-- and one that does comes no later
comes_first : (xs ys : List ℕ) → length ys ≡ length xs → GoesFirst xs ys → IsTrue (is_le (slice_cmp nat_cmp xs ys))
comes_first [] [] long first = refl
comes_first [] (y ∷ ys) long first = absurd (omega (arith, long))
comes_first (x ∷ xs) [] long first = absurd (omega (arith, long))
comes_first (x ∷ xs) (y ∷ ys) long (inl below) =
    let less : nat_cmp x y ≡ Less = grind (arith, nat_tests) in
    ap (λ (o : Ordering). is_le (ordering_then o (slice_cmp nat_cmp xs ys))) less
comes_first (x ∷ xs) (y ∷ ys) long (inr (same, first)) =
    let equal : nat_cmp x y ≡ Equal = grind (arith, nat_tests) in
    ap (λ (o : Ordering). is_le (ordering_then o (slice_cmp nat_cmp xs ys))) equal
    ∙ comes_first xs ys (omega (arith, long)) first

pub walks_are_plain : WalksArePlain
walks_are_plain = record {
  least = λ ports a b walk. (
    (λ least. (
      least.walk_is,
      least.least,
      λ other is long. goes_first walk other long (least.first other is long),
    )),
    (λ plain. record {
      walk_is = plain.0;
      least = plain.1;
      first = λ other is long. comes_first walk other long (plain.2 other is long);
    }),
  );
}
