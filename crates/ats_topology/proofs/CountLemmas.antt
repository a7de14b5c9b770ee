use Rattle.std.proofs.Common.{◌≡◌, ℕ, ◌+◌, ◌<◌, ◌≤◌, Bool, true, false, cond, ◌||◌, ◌&&◌, not, List, [], ◌∷◌, length}
use Rattle.std.proofs.Common.{get_or, set, take, replicate, refl, sym, ap, ◌∙◌, arith, eqb, get_or-set_same}
use Rattle.std.proofs.Common.{get_or-set_other, length-set, ⊎_elim, Option, Some, subst, IfSome}
use Rattle.std.specs.List.{count_by}
use Rattle.std.proofs.lemmas.Bool.{cases_eq, ne_eqb, eq-eqb}
use Rattle.std.proofs.lemmas.List.{ext_get_or, get_or-map, length-map, length-take-le}
use Rattle.std.proofs.lemmas.List.Sums.{count_by_more_yes, count_by_more_no, count_by-le-length}
use Rattle.std.specs.Prelude.{◌==◌}
use Rattle.ats_topology.specs.Node.{names_of, is_station, AreApart}
use Rattle.ats_topology.specs.Faults.{is_badly_linked}
use Rattle.ats_topology.specs.Link.{ends_at, link_counts}
use Rattle.ats_topology.specs.declared.node.Node.{Node}
use Rattle.ats_topology.specs.declared.link.Link.{Link}
use Rattle.ats_topology.proofs.Known.{IsOpen, ends_at_is}
use Rattle.ats_topology.proofs.NameLemmas.{length-names_of, name_at}

or_right : (p q : Bool) → q ≡ true → (p || q) ≡ true
or_right true q h = refl
or_right false q h = h

or_false : (p q : Bool) → p ≡ false → q ≡ false → (p || q) ≡ false
or_false true q h g = h
or_false false q h g = g

-- one more at two different places
pub bump_twice : (xs ys : List ℕ) (a b x y : ℕ) → (a ≡ b → ⊥) → a < length xs → b < length xs → length ys ≡ length xs
    → x ≡ get_or xs a 0 → y ≡ get_or (set xs a (x + 1)) b 0
    → ((n : ℕ) → n < length xs → get_or ys n 0 ≡ get_or xs n 0 + cond (eqb a n || eqb b n) 1 0)
    → set (set xs a (x + 1)) b (y + 1) ≡ ys
bump_twice xs ys a b x y differ in_a in_b long read_a read_b more =
    ext_get_or 0 (set (set xs a (x + 1)) b (y + 1)) ys (omega (arith, length-set {A = ℕ}))
    (λ n within. at n (omega (arith, length-set {A = ℕ})))
  where
    at_b : (n : ℕ) → n < length xs → n ≡ b → get_or (set (set xs a (x + 1)) b (y + 1)) n 0 ≡ get_or ys n 0
    at_b n within here =
        let in_mid : b < length (set xs a (x + 1)) = omega (arith, length-set {A = ℕ}) in
        let not_a : b ≡ a → ⊥ = λ e. differ (sym e) in
        let other : y ≡ get_or xs b 0 = read_b ∙ get_or-set_other xs a b (x + 1) 0 not_a in
        let count : get_or ys b 0 ≡ get_or xs b 0 + 1 = more b in_b
        ∙ ap (λ (t : Bool). get_or xs b 0 + cond t 1 0) (or_right (eqb a b) (eqb b b) (eq-eqb b b refl)) in
        ap (λ (k : ℕ). get_or (set (set xs a (x + 1)) b (y + 1)) k 0) here
        ∙ get_or-set_same (set xs a (x + 1)) b (y + 1) 0 in_mid
        ∙ ap (λ (k : ℕ). k + 1) other ∙ sym count ∙ ap (λ (k : ℕ). get_or ys k 0) (sym here)

    at_a : (n : ℕ) → n < length xs → n ≡ a → get_or (set (set xs a (x + 1)) b (y + 1)) n 0 ≡ get_or ys n 0
    at_a n within here =
        let count : get_or ys a 0 ≡ get_or xs a 0 + 1 =
        more a in_a ∙ ap (λ (t : Bool). get_or xs a 0 + cond (t || eqb b a) 1 0) (eq-eqb a a refl) in
        ap (λ (k : ℕ). get_or (set (set xs a (x + 1)) b (y + 1)) k 0) here
        ∙ get_or-set_other (set xs a (x + 1)) b a (y + 1) 0 differ
        ∙ get_or-set_same xs a (x + 1) 0 in_a
        ∙ ap (λ (k : ℕ). k + 1) read_a ∙ sym count ∙ ap (λ (k : ℕ). get_or ys k 0) (sym here)

    elsewhere : (n : ℕ) → n < length xs → (n ≡ b → ⊥) → (n ≡ a → ⊥)
        → get_or (set (set xs a (x + 1)) b (y + 1)) n 0 ≡ get_or ys n 0
    elsewhere n within not_b not_a =
        let fails : (eqb a n || eqb b n) ≡ false =
        or_false (eqb a n) (eqb b n) (ne_eqb a n (λ e. not_a (sym e))) (ne_eqb b n (λ e. not_b (sym e))) in
        let count : get_or ys n 0 ≡ get_or xs n 0 + 0 =
        more n within ∙ ap (λ (t : Bool). get_or xs n 0 + cond t 1 0) fails in
        get_or-set_other (set xs a (x + 1)) b n (y + 1) 0 not_b
        ∙ get_or-set_other xs a n (x + 1) 0 not_a ∙ omega (arith, count)

    at : (n : ℕ) → n < length xs → get_or (set (set xs a (x + 1)) b (y + 1)) n 0 ≡ get_or ys n 0
    at n within = ⊎_elim (at_b n within) (λ not_b. ⊎_elim (at_a n within) (elsewhere n within not_b) (cases_eq n a))
        (cases_eq n b)

-- with one link more, each node at an end of it has one link more
pub count_more : (names : List (List ℕ)) → AreApart names
    → (links : List Link) (i : ℕ) (link : Link) (o : IsOpen names link) → i < length links → link ≡ get_or links i link
    → (n : ℕ) → n < length names
    → count_by (ends_at (get_or names n [])) (take (i + 1) links)
    ≡ count_by (ends_at (get_or names n [])) (take i links) + cond (eqb o.a n || eqb o.b n) 1 0
count_more names separate links i link o within read n known = by (eqb o.a n || eqb o.b n) refl
  where
    test : ends_at (get_or names n []) (get_or links i link) ≡ (eqb o.a n || eqb o.b n)
    test = ap (ends_at (get_or names n [])) (sym read) ∙ ends_at_is names separate link o n known

    by : (b : Bool) → (eqb o.a n || eqb o.b n) ≡ b → count_by (ends_at (get_or names n [])) (take (i + 1) links)
        ≡ count_by (ends_at (get_or names n [])) (take i links) + cond b 1 0
    by true e = count_by_more_yes (ends_at (get_or names n [])) links i link within (test ∙ e)
    by false e = count_by_more_no (ends_at (get_or names n [])) links i link within (test ∙ e) ∙ omega arith

-- the count of the name at a place
pub count_at : (names : List (List ℕ)) (links : List Link) (n : ℕ) → n < length names
    → get_or (link_counts names links) n 0 ≡ count_by (ends_at (get_or names n [])) links
count_at names links n within = get_or-map (λ (name : List ℕ). count_by (ends_at name) links) names n [] 0 within

pub length-link_counts : (names : List (List ℕ)) (links : List Link) → length (link_counts names links) ≡ length names
length-link_counts names links = length-map names (λ (name : List ℕ). count_by (ends_at name) links)

-- the counts after one link more
pub counts_more : (names : List (List ℕ)) → AreApart names
    → (links : List Link) (i : ℕ) (link : Link) (o : IsOpen names link) (counts : List ℕ) (a b x y : ℕ)
    → i < length links → link ≡ get_or links i link
    → counts ≡ link_counts names (take i links) → a ≡ o.a → b ≡ o.b → a < length counts → b < length counts
    → x ≡ get_or counts a 0 → y ≡ get_or (set counts a (x + 1)) b 0
    → set (set counts a (x + 1)) b (y + 1) ≡ link_counts names (take (i + 1) links)
counts_more names separate links i link o counts a b x y within read so_far is_a is_b in_a in_b read_a read_b =
    bump_twice counts (link_counts names (take (i + 1) links)) a b x y
    (λ same. o.differ (sym is_a ∙ same ∙ is_b)) in_a in_b
    (length-link_counts names (take (i + 1) links) ∙ sym long) read_a read_b more
  where
    long : length counts ≡ length names
    long = ap (λ (t : List ℕ). length t) so_far ∙ length-link_counts names (take i links)

    more : (n : ℕ) → n < length counts
        → get_or (link_counts names (take (i + 1) links)) n 0 ≡ get_or counts n 0 + cond (eqb a n || eqb b n) 1 0
    more n inside =
        let known : n < length names = omega (arith, long) in
        count_at names (take (i + 1) links) n known
        ∙ count_more names separate links i link o within read n known
        ∙ ap (λ (k : ℕ). k + cond (eqb o.a n || eqb o.b n) 1 0)
        (sym (count_at names (take i links) n known) ∙ ap (λ (t : List ℕ). get_or t n 0) (sym so_far))
        ∙ ap (λ (k : ℕ). get_or counts n 0 + cond (eqb k n || eqb o.b n) 1 0) (sym is_a)
        ∙ ap (λ (k : ℕ). get_or counts n 0 + cond (eqb a n || eqb k n) 1 0) (sym is_b)

-- a count is at most the number of links so far
pub count_small : (names : List (List ℕ)) (links : List Link) (i : ℕ) (counts : List ℕ) (n x : ℕ)
    → counts ≡ link_counts names (take i links) → i < length links → n < length counts → x ≡ get_or counts n 0 → x ≤ i
count_small names links i counts n x so_far within inside read =
    let long : length counts ≡ length names =
    ap (λ (t : List ℕ). length t) so_far ∙ length-link_counts names (take i links) in
    let is : x ≡ count_by (ends_at (get_or names n [])) (take i links) =
    read ∙ ap (λ (t : List ℕ). get_or t n 0) so_far ∙ count_at names (take i links) n (omega (arith, long)) in
    omega (
      arith,
      is,
      count_by-le-length (ends_at (get_or names n [])) (take i links),
      length-take-le i links (omega arith),
    )

-- at first each count is 0
pub counts_none : (names : List (List ℕ)) → replicate (length names) 0 ≡ link_counts names []
counts_none [] = refl
counts_none (name ∷ names) = ap (λ (t : List ℕ). 0 ∷ t) (counts_none names)

-- a number that a look-up gave is a place of the counts
pub number_within : (names : List (List ℕ)) (links : List Link) (counts : List ℕ) (found : Option ℕ) (n : ℕ) → counts
    ≡ link_counts names links → IfSome found (λ place. place < length names) → found ≡ Some n → n < length counts
number_within names links counts found n so_far within is =
    let inside : n < length names = subst (λ (o : Option ℕ). IfSome o (λ place. place < length names)) is within in
    omega (arith, inside, ap (λ (t : List ℕ). length t) so_far ∙ length-link_counts names links)

-- what the count at a place says of the node there
pub badly_linked : (nodes : List Node) (links : List Link) (counts : List ℕ) (i : ℕ) (node : Node) (bad : Bool)
    → i < length nodes → node ≡ get_or nodes i node → counts ≡ link_counts (names_of nodes) links
    → bad ≡ (is_station node.kind && not (get_or counts i 0 == 1)) → is_badly_linked links (get_or nodes i node) ≡ bad
badly_linked nodes links counts i node bad within read counted is =
    let count : get_or counts i 0 ≡ count_by (ends_at node.name) links =
    ap (λ (t : List ℕ). get_or t i 0) counted ∙ count_at (names_of nodes) links i (omega (arith, length-names_of nodes))
    ∙ ap (λ (name : List ℕ). count_by (ends_at name) links) (name_at nodes i node within read) in
    ap (is_badly_linked links) (sym read) ∙ sym (is ∙ ap (λ (n : ℕ). is_station node.kind && not (n == 1)) count)
