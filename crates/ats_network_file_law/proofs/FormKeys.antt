-- What is read with the keys of a table, by the first of them that is wrong.
use Rattle.std.proofs.Common.{◌≡◌, ◌∙◌, ℕ, ◌<◌, Bool, true, false, cond, List, [], ◌∷◌, ◌++◌, length, get_or, Option}
use Rattle.std.proofs.Common.{Some, None, Result, refl, sym, ap}
use Rattle.std.specs.Prelude.{not, ◌&&◌, find, is_some, option_and_then, option_map}
use Rattle.std.specs.Option.{option_or}
use Rattle.std.specs.Str.{bytes_eq}
use Rattle.std.proofs.lemmas.Bool.{false≢true, or_parts}
use Rattle.std.proofs.lemmas.List.Elements.{All-get_or}
use Rattle.toml.specs.Data.{Data, Members, get_member, member, no_members}
use Rattle.ats_facts.proofs.Bytes.{bytes_eq-true}
use Rattle.ats_num.specs.Failure.{◌>>=◌, ok_where, or_fault}
use Rattle.ats_network_table.proofs.Places.{get_first}
use Rattle.ats_network_table.specs.Walk.{Entry, at, formed, has, has_unknown, is_known, is_missing, missing_key}
use Rattle.ats_network_table.specs.Walk.{none_missing}
use Rattle.ats_network_table.specs.Walk.{wrong_kind}
use Rattle.ats_network_table.specs.Words.{key_text}
use Rattle.ats_network_table.specs.declared.key.Key.{Key}
use Rattle.ats_network_table.specs.declared.key.Key.TheVariants as key
use Rattle.ats_network_table.specs.declared.fault.DocumentFault.{DocumentFault}
use Rattle.ats_network_table.specs.declared.fault.DocumentFault.TheVariants.{Missing, Unknown}
use Rattle.ats_network_file_law.specs.FormFaults.{IsComplete, is_kind, is_right, is_wrong, keys_in}
use Rattle.ats_network_file_law.proofs.FormFirsts.{first_fault, form_fault, joined, key_fault, keys_none, missing_fault}
use Rattle.ats_network_file_law.proofs.FormFirsts.{unknown_fault, wrongs}
use Rattle.ats_network_file_law.proofs.Told.{Told, chained, same_faults}

-- nothing is known of a value
abbrev pub Any : {A : Type 0} → A → Type 0
Any x = Unit {0}

-- the fault of one key
abbrev pub wrong : Entry → Key → Option DocumentFault
wrong e k = key_fault (wrong_kind e) (is_wrong e) k

-- what stands with a key
abbrev pub value_at : {A : Type 0} → (Data → Option A) → Entry → Key → Option A
value_at kind e k = option_and_then kind (get_member (key_text k) e.members)

-- a key that stands there is read, or is wrong
pub leaf : {A : Type 0} (e : Entry) (k : Key) (kind : Data → Option A) → has e k ≡ true
    → is_right e k ≡ is_kind kind e k → Told (λ x. value_at kind e k ≡ Some x) (wrong e k) (at e k kind)
leaf {A} e k kind there right =
    same_faults (λ (x : A). value_at kind e k ≡ Some x) (cond (not (is_kind kind e k)) (Some (wrong_kind e k)) None)
    (wrong e k) (at e k kind) (sym told) (by (value_at kind e k) refl)
  where
    told : wrong e k ≡ cond (not (is_kind kind e k)) (Some (wrong_kind e k)) None
    told =
        ap (λ b. let o : Option DocumentFault = cond (b && not (is_right e k)) (Some (wrong_kind e k)) None in o) there
        ∙ ap (λ b. let o : Option DocumentFault = cond (not b) (Some (wrong_kind e k)) None in o) right

    by : (o : Option A) → value_at kind e k ≡ o
        → Told (λ (x : A). value_at kind e k ≡ Some x) (cond (not (is_some o)) (Some (wrong_kind e k)) None)
        (or_fault (wrong_kind e k) o)
    by None h = refl
    by (Some x) h = (refl, h)

-- a key that does not stand there is not wrong
pub absent : (e : Entry) (k : Key) → has e k ≡ false → wrong e k ≡ None
absent e k h =
    ap (λ b. let o : Option DocumentFault = cond (b && not (is_right e k)) (Some (wrong_kind e k)) None in o) h

-- some keys are read, and then others
pub chained_keys : {A B : Type 0} (e : Entry) (G : A → Type 0) (H : B → Type 0) (ks ls : List Key)
    (r : Result A DocumentFault) (f : A → Result B DocumentFault) → Told G (wrongs e ks) r
    → ((x : A) → G x → Told H (wrongs e ls) (f x)) → Told H (wrongs e (ks ++ ls)) (r >>= f)
chained_keys e G H ks ls r f t next =
    same_faults H (option_or (wrongs e ks) (wrongs e ls)) (wrongs e (ks ++ ls)) (r >>= f)
    (joined (wrong_kind e) (is_wrong e) ks ls) (chained G H (wrongs e ks) (wrongs e ls) r f t next)

-- a search says whether one was found
found_key : (kind : Key → DocumentFault) (test : Key → Bool) (ks : List Key)
    → first_fault kind test ks ≡ option_map kind (find test ks)
found_key kind test [] = refl
found_key kind test (k ∷ ks) = by (test k) (found_key kind test ks)
  where
    by : (b : Bool) → first_fault kind test ks ≡ option_map kind (find test ks)
        → option_or (let o : Option DocumentFault = cond b (Some (kind k)) None in o) (first_fault kind test ks)
        ≡ option_map kind (cond b (Some k) (find test ks))
    by true rest = refl
    by false rest = rest

-- a table without a missing key has each of its keys, and no other
pub record IsFormed (e : Entry) : Type 0 where
  pub complete : IsComplete e
  pub known : has_unknown (keys_in e) e.members ≡ false

-- a table is formed, or has one of the first two faults
pub formed_told : (e : Entry) → Told (λ (u : Unit {0}). IsFormed e) (form_fault e) (formed e)
formed_told e =
    chained (λ (u : Unit {0}). IsComplete e) (λ (u : Unit {0}). IsFormed e) (missing_fault e) (unknown_fault e)
    (none_missing e (missing_key e))
    (λ u. ok_where (not (has_unknown (keys_in e) e.members)) (Unknown e.table e.number) u)
    (by (missing_key e) refl) (λ u complete. known (has_unknown (keys_in e) e.members) refl u complete)
  where
    by : (o : Option Key) → missing_key e ≡ o
        → Told (λ (u : Unit {0}). IsComplete e) (missing_fault e) (none_missing e o)
    by None h =
        let none : missing_fault e ≡ None =
        found_key (Missing e.table e.number) (is_missing e) (keys_in e)
        ∙ ap (option_map (Missing e.table e.number)) h in
        (none, keys_none (Missing e.table e.number) (is_missing e) (keys_in e) none)
    by (Some k) h =
        found_key (Missing e.table e.number) (is_missing e) (keys_in e) ∙ ap (option_map (Missing e.table e.number)) h

    known : (b : Bool) → has_unknown (keys_in e) e.members ≡ b → (u : Unit {0}) → IsComplete e
        → Told (λ (v : Unit {0}). IsFormed e) (cond b (Some (Unknown e.table e.number)) None)
        (ok_where (not b) (Unknown e.table e.number) u)
    known true h u complete = refl
    known false h u complete = (refl, record { complete = complete; known = h })

-- of a formed table no key stands there that is none of its keys
pub not_there : (ks : List Key) (k : Key) (ms : Members) → is_known ks (key_text k) ≡ false
    → has_unknown ks ms ≡ false → get_member (key_text k) ms ≡ None
not_there ks k no_members other known = refl
not_there ks k (member text d ms) other known =
    let parts : (not (is_known ks text) ≡ false) × (has_unknown ks ms ≡ false) =
    or_parts (not (is_known ks text)) (has_unknown ks ms) known in
    get_first (key_text k) text d ms ∙ by (bytes_eq (key_text k) text) refl parts.0 (not_there ks k ms other parts.1)
  where
    by : (same : Bool) → bytes_eq (key_text k) text ≡ same → not (is_known ks text) ≡ false
        → get_member (key_text k) ms ≡ None → cond same (Some d) (get_member (key_text k) ms) ≡ None
    by true e h rest =
        absurd (false≢true (sym h ∙ ap not (ap (is_known ks) (sym (bytes_eq-true (key_text k) text e)) ∙ other)))
    by false e h rest = rest

-- of a complete table the key at a place is not missing
pub not_missing : (e : Entry) (i : ℕ) → IsComplete e → i < length (keys_in e)
    → is_missing e (get_or (keys_in e) i key.Name) ≡ false
not_missing e i complete below = All-get_or (λ (k : Key). is_missing e k ≡ false) (keys_in e) i key.Name below complete

-- a key that is due stands there
pub stands : (b : Bool) → not b ≡ false → b ≡ true
stands true h = refl
stands false h = absurd (false≢true (sym h))
