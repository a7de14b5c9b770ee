use Rattle.std.proofs.Common.{◌≡◌, ℕ, zero, suc, ◌+◌, ◌<◌, true, List, [], ◌∷◌, ◌++◌, length, get_or, drop}
use Rattle.std.proofs.Common.{Option, Some, None, is_some, unwrap_or, Result, Ok, Err, refl, ap, ◌∙◌}
use Rattle.std.proofs.Common.{arith}
use Rattle.toml.specs.Data.{Data, Members, as_table}
use Rattle.toml.specs.View.{view, items_view}
use Rattle.toml.specs.declared.value.Value.{Value}
use Rattle.toml.proofs.Views.{items_view-drop}
use Rattle.ats_network_table.specs.Kinds.{in_front, all_in}
use Rattle.ats_network_table.specs.declared.fault.DocumentFault.{DocumentFault}
use Rattle.ats_network_toml.specs.Views.{are_tables, tables_of}

-- an item of an array, and those behind it
pub all_in_drop : {A : Type 0} (kind : Data → Option A) (vs : List Value) (i : ℕ) (d : Value) → i < length vs
    → all_in kind (items_view (drop i vs))
    ≡ in_front (kind (view (get_or vs i d))) (all_in kind (items_view (drop (i + 1) vs)))
all_in_drop kind vs i d h = ap (all_in kind) (items_view-drop vs i d h)

-- entries in front of those that are read behind them
abbrev pub behind : {A : Type 0} → List A → Result (List A) DocumentFault → Result (List A) DocumentFault
behind before (Ok ys) = Ok (before ++ ys)
behind before (Err e) = Err e

front_parts : (o : Option Members) (rest : Option (List Members)) → is_some (in_front o rest) ≡ true
    → (is_some o ≡ true) × (is_some rest ≡ true)
front_parts None rest h = cc
front_parts (Some t) None h = cc
front_parts (Some t) (Some ts) h = (refl, refl)

-- each of these values is a table
pub each_is_table : (vs : List Value) (i : ℕ) (d : Value) → i < length vs → are_tables vs ≡ true
    → is_some (as_table (view (get_or vs i d))) ≡ true
each_is_table [] i d h tables = absurd (omega (arith, h))
each_is_table (v ∷ vs) zero d h tables = (front_parts (as_table (view v)) (all_in as_table (items_view vs)) tables).0
each_is_table (v ∷ vs) (suc i) d h tables =
    each_is_table vs i d (omega (arith, h))
    (front_parts (as_table (view v)) (all_in as_table (items_view vs)) tables).1

front_at : (o : Option Members) (rest : Option (List Members)) (t d : Members) → is_some rest ≡ true → o ≡ Some t
    → get_or (unwrap_or (in_front o rest) []) 0 d ≡ t
front_at None rest t d some is = cc
front_at (Some s) None t d some is = cc
front_at (Some s) (Some ts) t d some is = cc

behind_at : (o : Option Members) (rest : Option (List Members)) (i : ℕ) (d : Members)
    → is_some (in_front o rest) ≡ true
    → get_or (unwrap_or (in_front o rest) []) (suc i) d ≡ get_or (unwrap_or rest []) i d
behind_at None rest i d some = cc
behind_at (Some t) None i d some = cc
behind_at (Some t) (Some ts) i d some = refl

-- the table at a place of these values
pub table_at : (vs : List Value) (i : ℕ) (v : Value) (t d : Members) → i < length vs → are_tables vs ≡ true
    → as_table (view (get_or vs i v)) ≡ Some t → get_or (tables_of vs) i d ≡ t
table_at [] i v t d h tables is = absurd (omega (arith, h))
table_at (x ∷ vs) zero v t d h tables is =
    front_at (as_table (view x)) (all_in as_table (items_view vs)) t d
    (front_parts (as_table (view x)) (all_in as_table (items_view vs)) tables).1 is
table_at (x ∷ vs) (suc i) v t d h tables is =
    behind_at (as_table (view x)) (all_in as_table (items_view vs)) i d tables
    ∙ table_at vs i v t d (omega (arith, h))
    (front_parts (as_table (view x)) (all_in as_table (items_view vs)) tables).1 is

front_length : (o : Option Members) (rest : Option (List Members)) (n : ℕ) → is_some (in_front o rest) ≡ true
    → (is_some rest ≡ true → length (unwrap_or rest []) ≡ n) → length (unwrap_or (in_front o rest) []) ≡ n + 1
front_length None rest n h ih = cc
front_length (Some t) None n h ih = cc
front_length (Some t) (Some ts) n h ih = omega (arith, ih refl)

-- there are as many tables as values
pub tables_of_length : (vs : List Value) → are_tables vs ≡ true → length (tables_of vs) ≡ length vs
tables_of_length [] h = refl
tables_of_length (v ∷ vs) h =
    front_length (as_table (view v)) (all_in as_table (items_view vs)) (length vs) h (tables_of_length vs) ∙ omega arith
