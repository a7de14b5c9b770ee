use Rattle.std.proofs.Common.{◌≡◌, ◌∙◌, ℕ, ◌≤◌, ℤ, pos, negsuc, Bool, true, false, List, [], ◌∷◌, Option, Some, None}
use Rattle.std.proofs.Common.{refl, ap, ap₂, subst}
use Rattle.std.specs.Prelude.{nat_le, ◌&&◌, option_and_then}
use Rattle.std.specs.List.{AllZip}
use Rattle.std.proofs.lemmas.Bool.{le-leb, leb-true}
use Rattle.toml.specs.Data.{Data, Items, Members, as_array, as_integer, item, no_items}
use Rattle.ats_network_table.specs.Kinds.{all_in, in_front, ranged, some_where}
use Rattle.ats_plain_document_law.specs.Values.{ListsAreRead, ValuesAreDeclared, WholesAreRanged, items_told}

-- Which values are whole numbers of a range, and which are lists.

-- a whole number of a range
abbrev pub IsRanged : ℕ → ℕ → Option ℤ → ℕ → Type 0
IsRanged least most o n = (o ≡ Some (pos n)) × (least ≤ n) × (n ≤ most)

pub ranged_only : (least most : ℕ) (o : Option ℤ) (n : ℕ) → option_and_then (ranged least most) o ≡ Some n
    → IsRanged least most o n
ranged_only least most None n h = cc h
ranged_only least most (Some (negsuc m)) n h = cc h
ranged_only least most (Some (pos m)) n h = by (nat_le least m) refl (nat_le m most) refl h
  where
    by : (a : Bool) → nat_le least m ≡ a → (b : Bool) → nat_le m most ≡ b → some_where (a && b) m ≡ Some n
        → IsRanged least most (Some (pos m)) n
    by true low true high h =
        let same : m ≡ n = cc h in
        subst (λ k. IsRanged least most (Some (pos m)) k) same (refl, leb-true least m low, leb-true m most high)
    by true low false high h = cc h
    by false low b high h = cc h

wholes : WholesAreRanged
wholes least most n d = (
  (λ h. ranged_only least most (as_integer d) n h),
  (λ is. ap (option_and_then (ranged least most)) is.0
      ∙ ap₂ (λ (a b : Bool). some_where (a && b) n) (le-leb least n is.1) (le-leb n most is.2)),
)

-- items, each of which is of the kind
abbrev AreOf : {A : Type 0} → (Data → Option A) → Items → List A → Type 0
AreOf kind items xs = AllZip (λ i x. kind i ≡ Some x) (items_told items) xs

each_of : {A : Type 0} (kind : Data → Option A) (items : Items) (xs : List A) → all_in kind items ≡ Some xs
    → AreOf kind items xs
each_of {A} kind no_items xs h =
    let same : [] ≡ xs = cc h in
    subst (λ (ys : List A). AreOf kind no_items ys) same tt
each_of {A} kind (item d ds) xs h = by (kind d) refl (all_in kind ds) (each_of kind ds) h
  where
    by : (o : Option A) → kind d ≡ o → (p : Option (List A)) → ((ys : List A) → p ≡ Some ys → AreOf kind ds ys)
        → in_front o p ≡ Some xs → AreOf kind (item d ds) xs
    by None e p rest h = cc h
    by (Some x) e None rest h = cc h
    by (Some x) e (Some ys) rest h =
        let same : x ∷ ys ≡ xs = cc h in
        subst (λ (zs : List A). AreOf kind (item d ds) zs) same (e, rest ys refl)

of_each : {A : Type 0} (kind : Data → Option A) (items : Items) (xs : List A) → AreOf kind items xs
    → all_in kind items ≡ Some xs
of_each kind no_items [] are = refl
of_each kind no_items (x ∷ xs) are = absurd are
of_each kind (item d ds) [] are = absurd are
of_each {A} kind (item d ds) (x ∷ xs) are =
    ap₂ (λ (o : Option A) (p : Option (List A)). in_front o p) are.0 (of_each kind ds xs are.1)

-- an array of them
abbrev IsArrayOf : {A : Type 0} → (Data → Option A) → Option Items → List A → Type 0
IsArrayOf kind o xs = (items : Items) × (o ≡ Some items) × AreOf kind items xs

array_only : {A : Type 0} (kind : Data → Option A) (o : Option Items) (xs : List A)
    → option_and_then (all_in kind) o ≡ Some xs → IsArrayOf kind o xs
array_only kind None xs h = cc h
array_only kind (Some items) xs h = (items, refl, each_of kind items xs h)

lists : (A : Type 0) → ListsAreRead A
lists A kind d xs = (
  (λ h. array_only kind (as_array d) xs h),
  (λ is. ap (option_and_then (all_in kind)) is.1 ∙ of_each kind is.0 xs is.2),
)

pub values_are_declared : ValuesAreDeclared
values_are_declared = record {
  wholes = wholes;
  numbers = lists ℕ;
  names = lists (List ℕ);
  paths = lists (List (List ℕ));
  tables = lists Members;
}
