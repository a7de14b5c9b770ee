-- Slots that enter lists and leave them.
use Rattle.std.proofs.Common.{◌≡◌, ◌≢◌, ℕ, ◌<◌, ◌≤◌, Bool, true, false, cond, not, eqb, List, [], ◌∷◌, ◌++◌, length}
use Rattle.std.proofs.Common.{get_or, set, take, drop, ◌+◌, refl, sym, ap, subst, ◌∙◌, ◌⊎◌, inl, inr, arith}
use Rattle.std.specs.Prelude.{◌||◌, vec_len, vec_capacity}
use Rattle.std.specs.List.{All, AllPairs, remove}
use Rattle.std.specs.Global.{Vec}
use Rattle.std.proofs.lemmas.Bool.{cases_eq, eq-eqb, ne_eqb, not-true, or_left, or_right}
use Rattle.std.proofs.lemmas.List.{map-set, length-map, length-set, get_or-map, get_or-set_same, get_or-set_other}
use Rattle.std.proofs.lemmas.List.{get_or_default, get_or-take, get_or-drop, length-take-le, length-drop, set-get_or}
use Rattle.std.proofs.lemmas.List.Elements.{All-push, All-weaker, filter_passes}
use Rattle.std.proofs.lemmas.List.Folds.{list_any-append, list_any_none}
use Rattle.std.proofs.lemmas.List.Kept.{AllPairs-filter}
use Rattle.ats_admission_users.specs.Users.{has_port}
use Rattle.ats_admission_users.specs.Lists.{items_of, without, EntriesDiffer, HasRoom, Enters, Leaves}
use Rattle.ats_admission_users.specs.declared.entry.Entry.{Entry}
use Rattle.ats_admission_users.proofs.Slots.{without_absent, without_at}

-- of ports that are apart, none is among those before it
pub not_before : (path : List ℕ) (i : ℕ) → AllPairs (λ p q. p ≢ q) path → i < length path
    → has_port (get_or path i 0) (take i path) ≡ false
not_before path i apart within =
    list_any_none (λ p. eqb p (get_or path i 0)) (take i path)
    (λ k d below. (
    let short = length-take-le i path (omega arith) in
    let before : k < i = omega (arith, below, short) in
    let differ : get_or path k 0 ≢ get_or path i 0 = apart k i 0 before within in
    ne_eqb (get_or (take i path) k d) (get_or path i 0)
    (λ e. differ (get_or_default path k 0 d (omega (arith, before, within)) ∙ sym (get_or-take i path k d before)
    ∙ e))))

-- nor among those behind it
pub apart_behind : (path : List ℕ) (i : ℕ) → AllPairs (λ p q. p ≢ q) path → i < length path
    → All (λ p. get_or path i 0 ≢ p) (drop (i + 1) path)
apart_behind path i apart within k d below e =
    let long = length-drop (i + 1) path in
    let there : (i + 1) + k < length path = omega (arith, long, below) in
    let differ : get_or path i d ≢ get_or path ((i + 1) + k) d = apart i ((i + 1) + k) d (omega arith) there in
    differ (get_or_default path i d 0 within ∙ e ∙ get_or-drop (i + 1) path k d)

-- a list more that has room
pub room_set : (lists : List (Vec Entry)) (port : ℕ) (list : Vec Entry) (path : List ℕ) → port < length lists
    → vec_len list + 1 ≤ vec_capacity list → All (HasRoom lists) path
    → All (HasRoom (set lists port list)) (path ++ port ∷ [])
room_set lists port list path within room has =
    All-push (HasRoom (set lists port list)) path port
    (All-weaker (HasRoom lists) (HasRoom (set lists port list)) kept path has) here
  where
    here : HasRoom (set lists port list) port
    here d = subst (λ (v : Vec Entry). vec_len v + 1 ≤ vec_capacity v)
        (sym (get_or-set_same lists port list d within)) room

    kept : (p : ℕ) → HasRoom lists p → HasRoom (set lists port list) p
    kept p h d = by (cases_eq port p)
      where
        by : (port ≡ p) ⊎ (port ≡ p → ⊥)
            → vec_len (get_or (set lists port list) p d) + 1 ≤ vec_capacity (get_or (set lists port list) p d)
        by (inl e) = subst (λ (n : ℕ). vec_len (get_or (set lists port list) n d) + 1
            ≤ vec_capacity (get_or (set lists port list) n d)) e (here d)
        by (inr other) = subst (λ (v : Vec Entry). vec_len v + 1 ≤ vec_capacity v)
            (sym (get_or-set_other lists port p list d (λ e. other (sym e)))) (h d)

-- the others keep theirs
pub room_apart : (lists : List (Vec Entry)) (port : ℕ) (list : Vec Entry) (path : List ℕ) → All (λ p. port ≢ p) path
    → All (HasRoom lists) path → All (HasRoom (set lists port list)) path
room_apart lists port list path apart has k d below e =
    subst (λ (v : Vec Entry). vec_len v + 1 ≤ vec_capacity v)
    (sym (get_or-set_other lists port (get_or path k d) list e (λ same. apart k d below (sym same))))
    (has k d below e)

-- the items of lists of which one was changed
pub items_set : (lists : List (Vec Entry)) (place : ℕ) (list : Vec Entry)
    → items_of (set lists place list) ≡ set (items_of lists) place list.items
items_set lists place list = map-set (λ (v : Vec Entry). v.items) lists place list

pub item_at : (lists : List (Vec Entry)) (place : ℕ) (d : Vec Entry) (e : List Entry) → place < length lists
    → get_or (items_of lists) place e ≡ (get_or lists place d).items
item_at lists place d e within = get_or-map (λ (v : Vec Entry). v.items) lists place d e within

-- entries come into the lists of a path, and then one into that of a port which this path does not have
pub enters_more : (entry : ℕ → Entry) (port : ℕ) (path : List ℕ) (old now : List (List Entry)) (list : List Entry)
    → port < length old → has_port port path ≡ false → Enters entry path old now
    → list ≡ get_or now port [] ++ entry port ∷ []
    → Enters entry (path ++ port ∷ []) old (set now port list)
enters_more entry port path old now list within other before is = record {
  count = length-set now port list ∙ before.count;
  each = λ place d inside. by place d inside (cases_eq port place)
      ∙ sym (ap (λ (b : Bool). cond b (get_or old place d ++ entry place ∷ []) (get_or old place d))
      (list_any-append (λ p. eqb p place) path (port ∷ [])));
}
  where
    within_now : port < length now
    within_now = omega (arith, within, before.count)

    by : (place : ℕ) (d : List Entry) → place < length old → (port ≡ place) ⊎ (port ≡ place → ⊥)
        → get_or (set now port list) place d
        ≡ cond (has_port place path || has_port place (port ∷ [])) (get_or old place d ++ entry place ∷ [])
        (get_or old place d)
    by place d inside (inl e) =
        ap (λ (p : ℕ). get_or (set now port list) p d) (sym e)
        ∙ get_or-set_same now port list d within_now
        ∙ is
        ∙ ap (λ (l : List Entry). l ++ entry port ∷ [])
        (before.each port [] within
        ∙ ap (λ (b : Bool). cond b (get_or old port [] ++ entry port ∷ []) (get_or old port [])) other
        ∙ get_or_default old port [] d within)
        ∙ ap (λ (p : ℕ). get_or old p d ++ entry p ∷ []) e
        ∙ sym (ap (λ (b : Bool). cond b (get_or old place d ++ entry place ∷ []) (get_or old place d))
        (or_right (has_port place path) (has_port place (port ∷ [])) (one place e)))
      where
        one : (place : ℕ) → port ≡ place → has_port place (port ∷ []) ≡ true
        one place e = or_left (eqb port place) false (eq-eqb port place e)
    by place d inside (inr differ) =
        get_or-set_other now port place list d (λ e. differ (sym e))
        ∙ before.each place d inside
        ∙ sym (ap (λ (b : Bool). cond b (get_or old place d ++ entry place ∷ []) (get_or old place d))
        (none place differ))
      where
        none : (place : ℕ) → (port ≡ place → ⊥)
            → (has_port place path || has_port place (port ∷ [])) ≡ has_port place path
        none place differ =
            ap (λ (b : Bool). has_port place path || (b || false)) (ne_eqb port place differ)
            ∙ or_no (has_port place path)
          where
            or_no : (b : Bool) → (b || (false || false)) ≡ b
            or_no true = refl
            or_no false = refl

-- a path without ports changes nothing
pub enters_none : (entry : ℕ → Entry) (lists : List (List Entry)) → Enters entry [] lists lists
enters_none entry lists = record { count = refl; each = λ port d within. refl }

pub leaves_none : (slot : ℕ) (lists : List (List Entry)) → Leaves slot [] lists lists
leaves_none slot lists = record { count = refl; each = λ port d within. refl }

-- a list without a slot has different ones where it had
pub without_differ : (slot : ℕ) (list : List Entry) → EntriesDiffer list → EntriesDiffer (without slot list)
without_differ slot list differ =
    AllPairs-filter (λ (a b : Entry). a.slot ≢ b.slot) (λ (e : Entry). not (eqb e.slot slot)) list differ

-- to take it out once more changes nothing
pub without_twice : (slot : ℕ) (list : List Entry) → without slot (without slot list) ≡ without slot list
without_twice slot list =
    without_absent slot (without slot list)
    (All-weaker (λ (e : Entry). not (eqb e.slot slot) ≡ true) (λ (e : Entry). e.slot ≢ slot)
    (λ e passes is. (let same = eq-eqb e.slot slot is in let other = not-true (eqb e.slot slot) passes in
    absurd (let no : true ≡ false = sym same ∙ other in cc))) (without slot list)
    (filter_passes (λ (e : Entry). not (eqb e.slot slot)) list))

pub leaves_differ : (slot : ℕ) (path : List ℕ) (old new : List (List Entry)) → All EntriesDiffer old
    → Leaves slot path old new → All EntriesDiffer new
leaves_differ slot path old new differ gone place d within =
    let inside : place < length old = omega (arith, gone.count, within) in
    subst EntriesDiffer (sym (gone.each place d inside)) (by (has_port place path) (differ place d inside))
  where
    by : (b : Bool) → EntriesDiffer (get_or old place d)
        → EntriesDiffer (cond b (without slot (get_or old place d)) (get_or old place d))
    by true h = without_differ slot (get_or old place d) h
    by false h = h

-- it leaves the lists of a path, and then that of one port more
pub leaves_more : (slot port : ℕ) (path : List ℕ) (old now new : List (List Entry)) → Leaves slot path old now
    → Leaves slot (port ∷ []) now new → Leaves slot (path ++ port ∷ []) old new
leaves_more slot port path old now new first second = record {
  count = second.count ∙ first.count;
  each = λ place d within.
      second.each place d (omega (arith, first.count, within))
      ∙ ap (λ (l : List Entry). cond (has_port place (port ∷ [])) (without slot l) l) (first.each place d within)
      ∙ by (has_port place (port ∷ [])) (has_port place path) (get_or old place d)
      ∙ sym (ap (λ (b : Bool). cond b (without slot (get_or old place d)) (get_or old place d))
      (list_any-append (λ p. eqb p place) path (port ∷ [])));
}
  where
    by : (b t : Bool) (list : List Entry)
        → cond b (without slot (cond t (without slot list) list)) (cond t (without slot list) list)
        ≡ cond (t || b) (without slot list) list
    by true true list = without_twice slot list
    by true false list = refl
    by false true list = refl
    by false false list = refl

-- one list without the slot
pub leaves_one : (slot port : ℕ) (lists : List (List Entry)) (list : List Entry) → port < length lists
    → list ≡ without slot (get_or lists port []) → Leaves slot (port ∷ []) lists (set lists port list)
leaves_one slot port lists list within is = record {
  count = length-set lists port list;
  each = λ place d inside. by place d inside (cases_eq port place);
}
  where
    by : (place : ℕ) (d : List Entry) → place < length lists → (port ≡ place) ⊎ (port ≡ place → ⊥)
        → get_or (set lists port list) place d
        ≡ cond (has_port place (port ∷ [])) (without slot (get_or lists place d)) (get_or lists place d)
    by place d inside (inl e) =
        ap (λ (p : ℕ). get_or (set lists port list) p d) (sym e)
        ∙ get_or-set_same lists port list d within
        ∙ is
        ∙ ap (without slot) (get_or_default lists port [] d within ∙ ap (λ (p : ℕ). get_or lists p d) e)
        ∙ sym (ap (λ (b : Bool). cond (b || false) (without slot (get_or lists place d)) (get_or lists place d))
        (eq-eqb port place e))
    by place d inside (inr other) =
        get_or-set_other lists port place list d (λ e. other (sym e))
        ∙ sym (ap (λ (b : Bool). cond (b || false) (without slot (get_or lists place d)) (get_or lists place d))
        (ne_eqb port place other))

-- a port that is not there
pub leaves_past : (slot port : ℕ) (lists : List (List Entry)) → length lists ≤ port
    → Leaves slot (port ∷ []) lists lists
leaves_past slot port lists past = record {
  count = refl;
  each = λ place d inside.
      sym (ap (λ (b : Bool). cond (b || false) (without slot (get_or lists place d)) (get_or lists place d))
      (ne_eqb port place (λ e. omega (arith, e, inside, past))));
}

-- for places past the end
no_entry : Entry
no_entry = record { slot = 0; hop = 0 }

-- a slot that was found is taken out
pub leaves_found : (slot port at : ℕ) (lists : List (Vec Entry)) (old new : Vec Entry) → port < length lists
    → All EntriesDiffer (items_of lists) → old ≡ get_or lists port old → at < length old.items
    → ((d : Entry) → (get_or old.items at d).slot ≡ slot) → new.items ≡ remove old.items at
    → Leaves slot (port ∷ []) (items_of lists) (items_of (set lists port new))
leaves_found slot port at lists old new within differ is inside stands taken =
    let list : get_or (items_of lists) port [] ≡ old.items =
    item_at lists port old [] within ∙ sym (ap (λ (v : Vec Entry). v.items) is) in
    let long : length (items_of lists) ≡ length lists = length-map lists (λ (v : Vec Entry). v.items) in
    let rises : EntriesDiffer old.items = subst EntriesDiffer list (differ port [] (omega (arith, long, within))) in
    subst (λ (l : List (List Entry)). Leaves slot (port ∷ []) (items_of lists) l) (sym (items_set lists port new))
    (leaves_one slot port (items_of lists) new.items (omega (arith, long, within))
    (taken ∙ without_at old.items slot at no_entry rises inside (stands no_entry) ∙ ap (without slot) (sym list)))

-- one that was not found stands nowhere
pub leaves_unfound : (slot port : ℕ) (lists : List (Vec Entry)) (old : Vec Entry) → port < length lists
    → old ≡ get_or lists port old → All (λ (e : Entry). e.slot ≢ slot) old.items
    → Leaves slot (port ∷ []) (items_of lists) (items_of lists)
leaves_unfound slot port lists old within is absent =
    let list : get_or (items_of lists) port [] ≡ old.items =
    item_at lists port old [] within ∙ sym (ap (λ (v : Vec Entry). v.items) is) in
    let long : length (items_of lists) ≡ length lists = length-map lists (λ (v : Vec Entry). v.items) in
    let inside : port < length (items_of lists) = omega (arith, long, within) in
    subst (λ (l : List (List Entry)). Leaves slot (port ∷ []) (items_of lists) l)
    (set-get_or (items_of lists) port [])
    (leaves_one slot port (items_of lists) (get_or (items_of lists) port []) inside
    (list ∙ sym (without_absent slot old.items absent) ∙ ap (without slot) (sym list)))
