use Rattle.std.proofs.Common.{◌≡◌, ℕ, suc, Bool, false, ◌&&◌, not, List, [], ◌∷◌, length}
use Rattle.std.proofs.Common.{arith, subst}
use Rattle.std.specs.Prelude.{◌==◌, nat_lt}
use Rattle.std.specs.List.{All, list_any}
use Rattle.std.proofs.lemmas.Bool.{or_parts, not-false, eqb-true, ltb-false, ne_eqb}
use Rattle.std.proofs.lemmas.List.{length-replicate}
use Rattle.std.proofs.lemmas.List.Elements.{All-nil, All-cons, All-replicate}
use Rattle.ats_streams.specs.Stream.{IsClass, is_bad_class, are_bad_classes, classes_for}
use Rattle.ats_streams.specs.declared.stream.TheConstants.{MAX_CLASS}

same_count : (n ports : ℕ) → not (n == ports) ≡ false → n ≡ ports
same_count n ports h = eqb-true n ports (not-false (n == ports) h)

-- classes that are not bad are as many as the ports once they stand along them
pub so_many : (ports : ℕ) (given : List ℕ) → are_bad_classes ports given ≡ false
    → length (classes_for ports given) ≡ ports
so_many ports [] good = same_count 0 ports good
so_many ports (class ∷ []) good = length-replicate ports class
so_many ports (class ∷ other ∷ given) good =
    let count : ℕ = suc (suc (length given)) in
    let counts : (not (count == 1) && not (count == ports)) ≡ false =
    (or_parts (list_any is_bad_class (class ∷ other ∷ given)) (not (count == 1) && not (count == ports)) good).1 in
    let many : (count == 1) ≡ false = ne_eqb count 1 (λ e. omega (arith, e)) in
    same_count count ports (subst (λ (b : Bool). (not b && not (count == ports)) ≡ false) many counts)

class_kept : (class : ℕ) → is_bad_class class ≡ false → IsClass class
class_kept class h =
    let parts : (nat_lt class 1 ≡ false) × (nat_lt MAX_CLASS class ≡ false) =
    or_parts (nat_lt class 1) (nat_lt MAX_CLASS class) h in
    record { least = ltb-false class 1 parts.0; most = ltb-false MAX_CLASS class parts.1 }

each_kept : (given : List ℕ) → list_any is_bad_class given ≡ false → All IsClass given
each_kept [] h = All-nil IsClass
each_kept (class ∷ given) h =
    let parts : (is_bad_class class ≡ false) × (list_any is_bad_class given ≡ false) =
    or_parts (is_bad_class class) (list_any is_bad_class given) h in
    All-cons IsClass class given (class_kept class parts.0) (each_kept given parts.1)

along_kept : (ports : ℕ) (given : List ℕ) → list_any is_bad_class given ≡ false → All IsClass (classes_for ports given)
along_kept ports [] h = All-nil IsClass
along_kept ports (class ∷ []) h =
    let parts : (is_bad_class class ≡ false) × (false ≡ false) = or_parts (is_bad_class class) false h in
    All-replicate IsClass ports class (class_kept class parts.0)
along_kept ports (class ∷ other ∷ given) h = each_kept (class ∷ other ∷ given) h

-- classes that are not bad are classes, one for each port
pub record AreClasses (ports : ℕ) (classes : List ℕ) : Type 0 where
  pub each : All IsClass classes
  pub count : length classes ≡ ports

pub classes_kept : (ports : ℕ) (given : List ℕ) → are_bad_classes ports given ≡ false
    → AreClasses ports (classes_for ports given)
classes_kept ports given h =
    let parts : (list_any is_bad_class given ≡ false)
    × ((not (length given == 1) && not (length given == ports)) ≡ false) =
    or_parts (list_any is_bad_class given) (not (length given == 1) && not (length given == ports)) h in
    record { each = along_kept ports given parts.0; count = so_many ports given h }
