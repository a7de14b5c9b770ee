-- Values by port and class.
use Rattle.std.proofs.Common.{◌≡◌, ◌≢◌, ◌+◌, ◌*◌, ◌<◌, ◌≤◌, ◌⊎◌, ℕ, Bool, true, false, cond, List, length, get_or, set}
use Rattle.std.proofs.Common.{replicate, Some, None, refl, sym, ap, ◌∙◌, arith, ltb, length-set, ⊎_elim, inl, inr}
use Rattle.std.proofs.Common.{take, drop}
use Rattle.std.proofs.Common.{get_or-set_same, get_or-set_other}
use Rattle.std.specs.Prelude.{◌&&◌, slice_get}
use Rattle.std.proofs.lemmas.Bool.{and_from, and_parts, lt-ltb, ltb-true}
use Rattle.std.proofs.lemmas.List.{length-replicate, get_or-replicate, get_or-take, get_or-drop, length-drop}
use Rattle.std.proofs.lemmas.List.{length-take-le}
use Rattle.std.proofs.lemmas.Option.{none-some, slice_get-get_or, slice_get_cases}
use Rattle.ats_class_table.specs.Table.{AreValuesAt, IsFilled, Sets, Table, table_of, value_at}

-- the value of a port and a class that are there
pub value_is : {T : Type 0} (ports : ℕ) (values : List T) (port class : ℕ) (d : T) → length values ≡ 8 * ports
    → port < ports → class ≤ 7 → value_at (table_of ports values) port class ≡ Some (get_or values (8 * port + class) d)
unfolding value_at
value_is ports values port class d long within most =
    ap (λ (b : Bool). cond b (slice_get values (8 * port + class)) None)
    (and_from (ltb port ports) (ltb class 8) (lt-ltb port ports within) (lt-ltb class 8 (omega arith)))
    ∙ slice_get-get_or values (8 * port + class) d (omega (arith, long))

-- the same value everywhere
pub filled_is : {T : Type 0} (ports : ℕ) (value : T) (values : List T) → values ≡ replicate (8 * ports) value
    → IsFilled ports value (table_of ports values)
filled_is ports value values e = record {
  count = refl;
  each = λ port class within most. value_is ports values port class value
      (ap length e ∙ length-replicate (8 * ports) value) within most
      ∙ ap (λ v. Some (get_or v (8 * port + class) value)) e
      ∙ ap Some (get_or-replicate (8 * ports) (8 * port + class) value value (omega arith));
}

-- a value that is put at a place
pub sets_is : {T : Type 0} (ports : ℕ) (values : List T) (port class : ℕ) (value : T) → length values ≡ 8 * ports
    → port < ports → class ≤ 7
    → Sets port class value (table_of ports values) (table_of ports (set values (8 * port + class) value))
unfolding value_at
sets_is {T} ports values port class value long within most = record {
  count = refl;
  here = value_is ports (set values at value) port class value (length-set values at value ∙ long) within most
      ∙ ap Some (get_or-set_same values at value value (omega (arith, long)));
  others = λ p c apart. by p c apart (ltb p ports && ltb c 8) refl;
}
  where
    at : ℕ
    at = 8 * port + class

    new : List T
    new = set values at value

    other : (p c : ℕ) → (p ≢ port) ⊎ (c ≢ class) → c < 8 → 8 * p + c ≢ at
    other p c apart low same = ⊎_elim (λ h. absurd (h (omega (arith, same, low, most))))
        (λ h. absurd (h (omega (arith, same, low, most)))) apart

    by : (p c : ℕ) → (p ≢ port) ⊎ (c ≢ class) → (b : Bool) → (ltb p ports && ltb c 8) ≡ b
        → cond (ltb p ports && ltb c 8) (slice_get new (8 * p + c)) None
        ≡ cond (ltb p ports && ltb c 8) (slice_get values (8 * p + c)) None
    by p c apart false e = ap (λ (b : Bool). cond b (slice_get new (8 * p + c)) None) e
        ∙ sym (ap (λ (b : Bool). cond b (slice_get values (8 * p + c)) None) e)
    by p c apart true e =
        let parts = and_parts (ltb p ports) (ltb c 8) e in
        let inside : p < ports = ltb-true p ports parts.0 in
        let low : c < 8 = ltb-true c 8 parts.1 in
        let count = length-set values at value in
        ap (λ (b : Bool). cond b (slice_get new (8 * p + c)) None) e
        ∙ slice_get-get_or new (8 * p + c) value (omega (arith, long, count))
        ∙ ap Some (get_or-set_other values at (8 * p + c) value value (other p c apart low))
        ∙ sym (slice_get-get_or values (8 * p + c) value (omega (arith, long)))
        ∙ sym (ap (λ (b : Bool). cond b (slice_get values (8 * p + c)) None) e)

-- a value stands at a port and a class that are there
pub value_inside : {T : Type 0} (table : Table T) (port class : ℕ) (value : T) → value_at table port class ≡ Some value
    → (port < table.ports) × (class ≤ 7)
unfolding value_at
value_inside table port class value h = by (ltb port table.ports && ltb class 8) refl h
  where
    by : (b : Bool) → (ltb port table.ports && ltb class 8) ≡ b
        → cond b (slice_get table.values (8 * port + class)) None ≡ Some value → (port < table.ports) × (class ≤ 7)
    by true e h =
        let parts = and_parts (ltb port table.ports) (ltb class 8) e in
        let low : class < 8 = ltb-true class 8 parts.1 in
        (ltb-true port table.ports parts.0, omega (arith, low))
    by false e h = absurd (none-some value h)

-- the eight values at a port stand one after the other
pub values_are : {T : Type 0} (ports : ℕ) (values : List T) (port count : ℕ) → length values ≡ 8 * ports → port < ports
    → count ≡ 8 → AreValuesAt (table_of ports values) port (take count (drop (8 * port) values))
values_are {T} ports values port count long within eight = record { count = many ∙ eight; each = each }
  where
    rest : List T
    rest = drop (8 * port) values

    many : length (take count rest) ≡ count
    many = length-take-le count rest
        (let left = length-drop (8 * port) values in omega (arith, left, long, within, eight))

    each : (class : ℕ) → class ≤ 7 → slice_get (take count rest) class ≡ value_at (table_of ports values) port class
    each class most = elim ((slice_get_cases values (8 * port + class)).1) as
        (λ _. slice_get (take count rest) class ≡ value_at (table_of ports values) port class) [
          | inl there ↦ slice_get-get_or (take count rest) class there.0 (omega (arith, many, most, eight))
              ∙ ap Some (get_or-take count rest class there.0 (omega (arith, most, eight))
              ∙ get_or-drop (8 * port) values class there.0)
              ∙ sym (value_is ports values port class there.0 long within most)
          | inr past ↦ absurd (let over = past.0 in omega (arith, over, long, within, most))
        ]
