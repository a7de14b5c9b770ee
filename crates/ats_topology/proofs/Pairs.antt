use Rattle.std.proofs.Common.{◌≡◌, ℕ, Bool, ◌&&◌, List, refl, ap, ◌∙◌, Ordering, eqb, arith}
use Rattle.std.specs.Ordering.{nat_cmp, ordering_then, is_eq}
use Rattle.std.specs.declared.cmp.Ordering.TheVariants.{Less, Equal, Greater}
use Rattle.std.specs.Cmp.Lexicographic.{slice_cmp}
use Rattle.std.specs.Str.{bytes_eq}
use Rattle.std.proofs.lemmas.Map.Text.{is_eq-slice_cmp}
use Rattle.std.proofs.lemmas.Bool.Decides.{nat_tests}

-- the order of pairs of names, and of pairs of numbers
abbrev pub name_pair_cmp : List ℕ × List ℕ → List ℕ × List ℕ → Ordering
name_pair_cmp x y = ordering_then (slice_cmp nat_cmp x.0 y.0) (slice_cmp nat_cmp x.1 y.1)

abbrev pub pair_cmp : ℕ × ℕ → ℕ × ℕ → Ordering
pair_cmp x y = ordering_then (nat_cmp x.0 y.0) (nat_cmp x.1 y.1)

is_eq-then : (o p : Ordering) → is_eq (ordering_then o p) ≡ (is_eq o && is_eq p)
is_eq-then Less p = refl
is_eq-then Equal p = refl
is_eq-then Greater p = refl

-- two pairs are equal where their parts are
pub is_eq-name_pair_cmp : (x y : List ℕ × List ℕ) → is_eq (name_pair_cmp x y) ≡ (bytes_eq x.0 y.0 && bytes_eq x.1 y.1)
is_eq-name_pair_cmp x y =
    is_eq-then (slice_cmp nat_cmp x.0 y.0) (slice_cmp nat_cmp x.1 y.1)
    ∙ ap (λ (b : Bool). b && is_eq (slice_cmp nat_cmp x.1 y.1)) (is_eq-slice_cmp x.0 y.0)
    ∙ ap (λ (b : Bool). bytes_eq x.0 y.0 && b) (is_eq-slice_cmp x.1 y.1)

is_eq-nat_cmp : (m n : ℕ) → is_eq (nat_cmp m n) ≡ eqb m n
is_eq-nat_cmp m n = grind (arith, nat_tests)

pub is_eq-pair_cmp : (x y : ℕ × ℕ) → is_eq (pair_cmp x y) ≡ (eqb x.0 y.0 && eqb x.1 y.1)
is_eq-pair_cmp x y =
    is_eq-then (nat_cmp x.0 y.0) (nat_cmp x.1 y.1)
    ∙ ap (λ (b : Bool). b && is_eq (nat_cmp x.1 y.1)) (is_eq-nat_cmp x.0 y.0)
    ∙ ap (λ (b : Bool). eqb x.0 y.0 && b) (is_eq-nat_cmp x.1 y.1)
