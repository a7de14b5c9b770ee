-- What is read of a value is what stands there.
use Rattle.std.proofs.Common.{◌≡◌, ◌∙◌, ℕ, Bool, true, false, cond, List, [], ◌∷◌, length, Option, Some, None, Result}
use Rattle.std.proofs.Common.{Ok}
use Rattle.std.proofs.Common.{refl, sym, ap, inl, inr, ◌⊎◌}
use Rattle.std.specs.Prelude.{ℤ, pos, negsuc, nat_le, ◌&&◌, is_some, option_and_then}
use Rattle.std.specs.Option.{option_map, option_or}
use Rattle.toml.specs.Data.{Data, Items, array, as_array, as_integer, as_str, as_table, boolean, datetime}
use Rattle.toml.specs.Data.{float, get_member, integer, item, no_items, string, table}
use Rattle.ats_num.specs.Name.{is_name, name_of}
use Rattle.ats_network_table.specs.Kinds.{all_in, in_front, list_in, name_in, names_in, one_or_more, paths_in, ranged}
use Rattle.ats_network_table.specs.Kinds.{short_name_in, some_where, whole_in}
use Rattle.ats_network_table.specs.Walk.{Entry, at, wrong_kind}
use Rattle.ats_network_table.specs.Words.{key_text}
use Rattle.ats_network_table.specs.declared.key.Key.{Key}
use Rattle.ats_network_table.specs.declared.fault.DocumentFault.{DocumentFault}
use Rattle.ats_network_file.proofs.Steps.{or_fault_ok}
use Rattle.ats_first_examples.specs.Entries.{items_of, texts}

-- a value that is read goes back to what stands there
abbrev pub Inverts : {A : Type 0} → (Data → Option A) → (A → Data) → Type 0
Inverts {A} kind back = (d : Data) (x : A) → kind d ≡ Some x → d ≡ back x

-- where a test passes, the value is the one that was given
where_same : {A : Type 0} (passes : Bool) (x y : A) → some_where passes x ≡ Some y → x ≡ y
where_same true x y h = cc h
where_same false x y h = cc h

-- one after another
pub record Two {A B : Type 0} (o : Option A) (f : A → Option B) (y : B) : Type 0 where
  pub first : A
  pub is : o ≡ Some first
  pub then : f first ≡ Some y

pub two : {A B : Type 0} (o : Option A) (f : A → Option B) (y : B) → option_and_then f o ≡ Some y → Two o f y
two None f y h = cc h
two (Some x) f y h = record { first = x; is = refl; then = h }

pub some_same : {A : Type 0} (x y : A) → (let o : Option A = Some x in o) ≡ Some y → x ≡ y
some_same x y h = cc h

-- the accessors
str_back : Inverts as_str string
str_back (string s) x h = ap string (some_same s x h)
str_back (integer z) x h = cc h
str_back (float f) x h = cc h
str_back (boolean b) x h = cc h
str_back (datetime t) x h = cc h
str_back (array ds) x h = cc h
str_back (table ms) x h = cc h

integer_back : Inverts as_integer integer
integer_back (string s) x h = cc h
integer_back (integer z) x h = ap integer (some_same z x h)
integer_back (float f) x h = cc h
integer_back (boolean b) x h = cc h
integer_back (datetime t) x h = cc h
integer_back (array ds) x h = cc h
integer_back (table ms) x h = cc h

array_back : Inverts as_array array
array_back (string s) x h = cc h
array_back (integer z) x h = cc h
array_back (float f) x h = cc h
array_back (boolean b) x h = cc h
array_back (datetime t) x h = cc h
array_back (array ds) x h = ap array (some_same ds x h)
array_back (table ms) x h = cc h

pub table_back : Inverts as_table table
table_back (string s) x h = cc h
table_back (integer z) x h = cc h
table_back (float f) x h = cc h
table_back (boolean b) x h = cc h
table_back (datetime t) x h = cc h
table_back (array ds) x h = cc h
table_back (table ms) x h = ap table (some_same ms x h)

-- numbers
ranged_back : (least most : ℕ) (z : ℤ) (n : ℕ) → ranged least most z ≡ Some n → z ≡ pos n
ranged_back least most (pos m) n h = ap pos (where_same (nat_le least m && nat_le m most) m n h)
ranged_back least most (negsuc m) n h = cc h

pub whole_back : (least most : ℕ) → Inverts (whole_in least most) (λ n. integer (pos n))
whole_back least most d n h =
    let read = two (as_integer d) (ranged least most) n h in
    integer_back d read.first read.is ∙ ap integer (ranged_back least most read.first n read.then)

-- names and texts
named : (text name : List ℕ) → name_of text ≡ Some name → text ≡ name
named text name h = by (is_name text) h
  where
    by : (b : Bool) → (let o : Option (List ℕ) = cond b (Some text) None in o) ≡ Some name → text ≡ name
    by true h = cc h
    by false h = cc h

pub text_back : Inverts as_str string
text_back = str_back

pub name_back : Inverts name_in string
name_back d name h =
    let read = two (as_str d) name_of name h in
    str_back d read.first read.is ∙ ap string (named read.first name read.then)

pub short_name_back : Inverts short_name_in string
short_name_back d name h =
    let read = two (name_in d) (λ name. some_where (nat_le (length name) 26) name) name h in
    name_back d read.first read.is
    ∙ ap string (where_same (nat_le (length read.first) 26) read.first name read.then)

-- arrays
front_is : {A : Type 0} (x : Option A) (rest : Option (List A)) (y : A) (ys : List A) → in_front x rest ≡ Some (y ∷ ys)
    → (x ≡ Some y) × (rest ≡ Some ys)
front_is None rest y ys h = cc h
front_is (Some x) None y ys h = cc h
front_is (Some x) (Some xs) y ys h = (cc h, cc h)

front_not : {A : Type 0} (x : Option A) (rest : Option (List A)) → (in_front x rest ≡ Some []) → ⊥
front_not None rest h = cc h
front_not (Some x) None h = cc h
front_not (Some x) (Some xs) h = cc h

all_back : {A : Type 0} (kind : Data → Option A) (back : A → Data) → Inverts kind back → (ds : Items) (xs : List A)
    → all_in kind ds ≡ Some xs → ds ≡ items_of back xs
all_back kind back inverts no_items [] h = refl
all_back kind back inverts no_items (x ∷ xs) h = cc h
all_back kind back inverts (item d ds) [] h = absurd (front_not (kind d) (all_in kind ds) h)
all_back kind back inverts (item d ds) (x ∷ xs) h =
    let parts = front_is (kind d) (all_in kind ds) x xs h in
    ap (λ (e : Data). item e ds) (inverts d x parts.0)
    ∙ ap (λ (es : Items). item (back x) es) (all_back kind back inverts ds xs parts.1)

pub list_back : {A : Type 0} (kind : Data → Option A) (back : A → Data) → Inverts kind back
    → Inverts (list_in kind) (λ xs. array (items_of back xs))
list_back kind back inverts d xs h =
    let read = two (as_array d) (all_in kind) xs h in
    array_back d read.first read.is ∙ ap array (all_back kind back inverts read.first xs read.then)

pub names_back : (least : ℕ) → Inverts (names_in least) texts
names_back least d names h =
    let read = two (list_in name_in d) (λ names. some_where (nat_le least (length names)) names) names h in
    list_back name_in string name_back d read.first read.is
    ∙ ap texts (where_same (nat_le least (length read.first)) read.first names read.then)

pub paths_back : Inverts paths_in (λ paths. array (items_of texts paths))
paths_back d paths h =
    let read = two (list_in (names_in 2) d) (λ paths. some_where (nat_le 1 (length paths)) paths) paths h in
    list_back (names_in 2) texts (names_back 2) d read.first read.is
    ∙ ap (λ (ps : List (List (List ℕ))). array (items_of texts ps))
    (where_same (nat_le 1 (length read.first)) read.first paths read.then)

-- one listener or several
abbrev pub AreListeners : Option Data → List (List ℕ) → Type 0
AreListeners found names =
    ((name : List ℕ) × (found ≡ Some (string name)) × (names ≡ name ∷ [])) ⊎ (found ≡ Some (texts names))

pub listeners_back : (several : Bool) (found : Option Data) (names : List (List ℕ))
    → option_and_then (one_or_more several) found ≡ Some names → AreListeners found names
listeners_back several None names h = cc h
listeners_back several (Some d) names h = by (name_in d) refl h
  where
    more : (b : Bool) → (let o : Option (List (List ℕ)) = cond b (names_in 1 d) None in o) ≡ Some names
        → AreListeners (Some d) names
    more true h = inr (ap Some (names_back 1 d names h))
    more false h = cc h

    by : (o : Option (List ℕ)) → name_in d ≡ o
        → option_or (option_map (λ name. name ∷ []) o) (cond several (names_in 1 d) None) ≡ Some names
        → AreListeners (Some d) names
    by (Some name) e h = inl (name, ap Some (name_back d name e), sym (some_same (name ∷ []) names h))
    by None e h = more several h

-- what stands with a key
pub value_back : {A : Type 0} (kind : Data → Option A) (back : A → Data) → Inverts kind back → (found : Option Data)
    (x : A) → option_and_then kind found ≡ Some x → found ≡ Some (back x)
value_back kind back inverts found x h =
    let read = two found kind x h in
    read.is ∙ ap Some (inverts read.first x read.then)

pub read_at : {A : Type 0} (e : Entry) (k : Key) (kind : Data → Option A) (x : A) → at e k kind ≡ Ok x
    → option_and_then kind (get_member (key_text k) e.members) ≡ Some x
read_at e k kind x h = or_fault_ok (wrong_kind e k) (option_and_then kind (get_member (key_text k) e.members)) x h

pub stands_at : {A : Type 0} (e : Entry) (k : Key) (kind : Data → Option A) (back : A → Data) → Inverts kind back
    → (x : A) → at e k kind ≡ Ok x → get_member (key_text k) e.members ≡ Some (back x)
stands_at e k kind back inverts x h =
    value_back kind back inverts (get_member (key_text k) e.members) x (read_at e k kind x h)

-- a step that gave a value gave that one
pub ok_same : {A F : Type 0} (x y : A) → (let r : Result A F = Ok x in r) ≡ Ok y → x ≡ y
ok_same x y h = cc h

-- a key that may be left out
pub left_out : {A : Type 0} (found : Option Data) (absent x : A) (back : A → Data) (read : Result A DocumentFault)
    → (read ≡ Ok x → found ≡ Some (back x)) → cond (is_some found) read (Ok absent) ≡ Ok x
    → (found ≡ Some (back x)) ⊎ ((found ≡ None) × (x ≡ absent))
left_out None absent x back read stands h = inr (refl, sym (ok_same absent x h))
left_out (Some d) absent x back read stands h = inl (stands h)
