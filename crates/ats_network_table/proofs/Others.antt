use Rattle.std.proofs.Common.{◌≡◌, ℕ, ◌+◌, Bool, true, false, not, ◌&&◌, ◌||◌, cond, List, [], ◌∷◌, get_or, ◌==◌}
use Rattle.std.proofs.Common.{Option, Some, None, is_some, refl, sym, ap, ◌∙◌}
use Rattle.std.specs.List.{list_any, position_from}
use Rattle.std.specs.Str.{bytes_eq}
use Rattle.std.proofs.lemmas.Bool.Decides.{same_from_decides, Decides-eqb}
use Rattle.std.proofs.lemmas.Option.{same_Some}
use Rattle.std.proofs.lemmas.Slice.Eq.{bytes_eq-Decides}
use Rattle.toml.specs.Data.{Data, Members, no_members, member, get_member}
use Rattle.ats_network_table.specs.Words.{key_text}
use Rattle.ats_network_table.specs.Walk.{is_known, has_unknown}
use Rattle.ats_network_table.specs.Slots.{all_keys, slot_of, is_listed, stands_beside, has_other}
use Rattle.ats_network_table.specs.declared.key.Key.{Key}
use Rattle.ats_network_table.proofs.Places.{named, named_key, at_slot, same_bytes, same_again, get_first}

-- a search finds a place where one of the keys passes
place_any : (test : Key → Bool) (n : ℕ) (ks : List Key) → is_some (position_from test n ks) ≡ list_any test ks
place_any test n [] = refl
place_any test n (k ∷ ks) = by (test k) (place_any test (n + 1) ks)
  where
    by : (b : Bool) → is_some (position_from test (n + 1) ks) ≡ list_any test ks
        → is_some (cond b (Some n) (position_from test (n + 1) ks)) ≡ (b || list_any test ks)
    by true more = refl
    by false more = more

-- a text has a place among all keys where it is one of them
known_named : (text : List ℕ) → is_known all_keys text ≡ is_some (named text)
known_named text = sym (place_any (λ k. bytes_eq text (key_text k)) 0 all_keys)

-- a member whose text is a key's changes nothing
pub named_on : (text : List ℕ) (d : Data) (ms : Members) (slot : ℕ) → named text ≡ Some slot
    → has_unknown all_keys (member text d ms) ≡ has_unknown all_keys ms
named_on text d ms slot is =
    ap (λ (known : Bool). not known || has_unknown all_keys ms) (known_named text ∙ ap is_some is)

or_true : (b : Bool) → (b || true) ≡ true
or_true true = refl
or_true false = refl

-- a member whose text is no key's settles it
pub unnamed_on : (text : List ℕ) (d : Data) (ms : Members) (b : Bool) → named text ≡ None
    → (b || has_unknown all_keys (member text d ms)) ≡ true
unnamed_on text d ms b none =
    ap (λ (known : Bool). b || (not known || has_unknown all_keys ms)) (known_named text ∙ ap is_some none) ∙ or_true b

-- two keys are written alike where they have one place
same_key : (k x : Key) → (slot_of x == slot_of k) ≡ bytes_eq (key_text k) (key_text x)
same_key k x = same_from_decides (slot_of x == slot_of k) (bytes_eq (key_text k) (key_text x))
    (Decides-eqb (slot_of x) (slot_of k)) (one_place, one_text)
  where
    one_place : bytes_eq (key_text k) (key_text x) ≡ true → slot_of x ≡ slot_of k
    one_place same = same_Some (slot_of x) (slot_of k)
        (sym (named_key x) ∙ ap named (sym (same_bytes (key_text k) (key_text x) same)) ∙ named_key k)

    one_text : slot_of x ≡ slot_of k → bytes_eq (key_text k) (key_text x) ≡ true
    one_text same =
        let is : x ≡ k = sym (at_slot x k) ∙ ap (λ (n : ℕ). get_or all_keys n k) same ∙ at_slot k k in
        ap (λ (y : Key). bytes_eq (key_text k) (key_text y)) is ∙ same_again (key_text k)

-- one of these keys has the key's place where one of them is written so
listed_known : (ks : List Key) (k : Key) → is_listed ks (slot_of k) ≡ is_known ks (key_text k)
listed_known [] k = refl
listed_known (x ∷ ks) k = rw (same_key k x, listed_known ks k) refl

swapped : (p q r : Bool) → (p || (q || r)) ≡ (q || (p || r))
swapped true true r = refl
swapped true false r = refl
swapped false q r = refl

alone : (n p q r : Bool) → (not n || ((p && not n) || r)) ≡ (not n || ((q && not n) || r))
alone false p q r = refl
alone true true true r = refl
alone true true false r = refl
alone true false true r = refl
alone true false false r = refl

-- of a table with one member in front: the member's key is none of these, or a key of the others stands beside them
front : (b s l n L B R : Bool) → (b ≡ true → l ≡ n) → L ≡ ((B && not n) || R)
    → (((b || s) && not l) || L) ≡ (((b || B) && not n) || ((s && not l) || R))
front true s l n L B R same more = rw (same refl, more) (alone n B s R)
front false s l n L B R same more = rw more (swapped (s && not l) (B && not n) R)

some_first : (b : Bool) (d : Data) (o : Option Data) → is_some (cond b (Some d) o) ≡ (b || is_some o)
some_first true d o = refl
some_first false d o = refl

other_way : (xs ys : List ℕ) → bytes_eq xs ys ≡ bytes_eq ys xs
other_way xs ys = same_from_decides (bytes_eq xs ys) (bytes_eq ys xs) (bytes_eq-Decides xs ys)
    (λ same. sym (same_bytes ys xs same), λ is. ap (bytes_eq ys) is ∙ same_again ys)

-- one more member
more_others : (keys : List Key) (text : List ℕ) (d : Data) (ms : Members) (ks : List Key)
    → list_any (stands_beside keys (member text d ms)) ks
    ≡ ((is_known ks text && not (is_known keys text)) || list_any (stands_beside keys ms) ks)
more_others keys text d ms [] = refl
more_others keys text d ms (k ∷ ks) =
    let here : is_some (get_member (key_text k) (member text d ms))
    ≡ (bytes_eq text (key_text k) || is_some (get_member (key_text k) ms)) =
    ap is_some (get_first (key_text k) text d ms)
    ∙ some_first (bytes_eq (key_text k) text) d (get_member (key_text k) ms)
    ∙ ap (λ (b : Bool). b || is_some (get_member (key_text k) ms)) (other_way (key_text k) text) in
    ap (λ (b : Bool). (b && not (is_listed keys (slot_of k))) || list_any (stands_beside keys (member text d ms)) ks)
    here
    ∙ front (bytes_eq text (key_text k)) (is_some (get_member (key_text k) ms)) (is_listed keys (slot_of k))
    (is_known keys text) (list_any (stands_beside keys (member text d ms)) ks) (is_known ks text)
    (list_any (stands_beside keys ms) ks)
    (λ same. listed_known keys k ∙ ap (is_known keys) (sym (same_bytes text (key_text k) same)))
    (more_others keys text d ms ks)

known_front : (known n h r u : Bool) → (not known || h) ≡ false → (h ≡ false → r ≡ u)
    → ((known && n) || r) ≡ (n || u)
known_front true n h r u named more = ap (λ (b : Bool). n || b) (more named)
known_front false n h r u named more = cc

-- where each member has one of all keys, a key is unknown where one of all keys stands beside the known ones
pub others_unknown : (keys : List Key) (ms : Members) → has_unknown all_keys ms ≡ false
    → has_other keys ms ≡ has_unknown keys ms
others_unknown keys no_members named = refl
others_unknown keys (member text d ms) named = more_others keys text d ms all_keys
    ∙ known_front (is_known all_keys text) (not (is_known keys text)) (has_unknown all_keys ms) (has_other keys ms)
    (has_unknown keys ms) named (others_unknown keys ms)
