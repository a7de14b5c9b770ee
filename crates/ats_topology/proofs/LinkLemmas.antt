use Rattle.std.proofs.Common.{◌≡◌, ℕ, ◌+◌, ◌<◌, Bool, true, false, cond, ◌||◌, ◌&&◌, List, [], ◌∷◌, ◌++◌, length}
use Rattle.std.proofs.Common.{get_or, take, refl, sym, ap, ◌∙◌}
use Rattle.std.specs.List.{list_any}
use Rattle.std.specs.BTreeSet.{BTreeSet, contains, Updates}
use Rattle.std.specs.Str.{bytes_eq}
use Rattle.std.proofs.lemmas.List.{take_more, get_or_default}
use Rattle.std.proofs.lemmas.List.Folds.{list_any-append}
use Rattle.ats_topology.specs.Link.{joins}
use Rattle.ats_topology.specs.Faults.{is_link_again, no_link}
use Rattle.ats_topology.specs.declared.link.Link.{Link}
use Rattle.ats_topology.proofs.Pairs.{name_pair_cmp, is_eq-name_pair_cmp}

-- the set has each pair of names that one of these links joins
abbrev pub HasJoined : BTreeSet (List ℕ × List ℕ) → List Link → Type 0
HasJoined set links = (a b : List ℕ) → contains name_pair_cmp set (a, b) ≡ list_any (joins a b) links

-- the link at a place, at any default
pub link_at : (links : List Link) (i : ℕ) (link : Link) → i < length links → link ≡ get_or links i link
    → get_or links i no_link ≡ link
link_at links i link within read = get_or_default links i no_link link within ∙ sym read

-- what the set says of the link at a place
pub link_again : (links : List Link) (i : ℕ) (link : Link) (set : BTreeSet (List ℕ × List ℕ)) → i < length links
    → link ≡ get_or links i link → HasJoined set (take i links)
    → is_link_again links i ≡ contains name_pair_cmp set (link.a, link.b)
link_again links i link set within read joined =
    ap (λ (l : Link). list_any (joins l.a l.b) (take i links)) (link_at links i link within read)
    ∙ sym (joined link.a link.b)

list_any-one : (p : Link → Bool) (link : Link) → list_any p (link ∷ []) ≡ p link
list_any-one p link = by (p link)
  where
    by : (b : Bool) → (b || false) ≡ b
    by true = refl
    by false = refl

pub and_comm : (p q : Bool) → (p && q) ≡ (q && p)
and_comm true true = refl
and_comm true false = refl
and_comm false true = refl
and_comm false false = refl

either : (p q r : Bool) → cond p true (cond q true r) ≡ (r || (q || p))
either true true true = refl
either true true false = refl
either true false true = refl
either true false false = refl
either false true true = refl
either false true false = refl
either false false true = refl
either false false false = refl

-- after both directions of a link are put in, the set has what that link joins too
pub joined_more : (links : List Link) (i : ℕ) (link : Link) (set mid new : BTreeSet (List ℕ × List ℕ))
    → i < length links → link ≡ get_or links i link → HasJoined set (take i links)
    → Updates name_pair_cmp set mid (link.a, link.b) true → Updates name_pair_cmp mid new (link.b, link.a) true
    → HasJoined new (take (i + 1) links)
joined_more links i link set mid new within read joined there back a b =
    let forth : Bool = bytes_eq link.a a && bytes_eq link.b b in
    let more : list_any (joins a b) (take (i + 1) links) ≡ (list_any (joins a b) (take i links) || joins a b link) =
    ap (list_any (joins a b)) (take_more links i link within ∙ ap (λ (l : Link). take i links ++ l ∷ []) (sym read))
    ∙ list_any-append (joins a b) (take i links) (link ∷ [])
    ∙ ap (λ (t : Bool). list_any (joins a b) (take i links) || t) (list_any-one (joins a b) link) in
    back.0 (a, b)
    ∙ ap (λ (t : Bool). cond t true (contains name_pair_cmp mid (a, b)))
    (is_eq-name_pair_cmp (link.b, link.a) (a, b) ∙ and_comm (bytes_eq link.b a) (bytes_eq link.a b))
    ∙ ap (λ (t : Bool). cond (bytes_eq link.a b && bytes_eq link.b a) true t) (there.0 (a, b)
    ∙ ap (λ (t : Bool). cond t true (contains name_pair_cmp set (a, b))) (is_eq-name_pair_cmp (link.a, link.b) (a, b)))
    ∙ ap (λ (t : Bool). cond (bytes_eq link.a b && bytes_eq link.b a) true (cond forth true t)) (joined a b)
    ∙ either (bytes_eq link.a b && bytes_eq link.b a) forth (list_any (joins a b) (take i links))
    ∙ sym more
