-- Nodes of ports that are apart.
use Rattle.std.proofs.Common.{◌≡◌, ◌≢◌, ℕ, zero, suc, ◌+◌, ◌<◌, false, List, [], ◌∷◌, ◌++◌, length, drop, get_or}
use Rattle.std.proofs.Common.{sym, ap, subst, ◌∙◌, arith, length-append}
use Rattle.std.specs.List.{All, AllPairs}
use Rattle.std.proofs.lemmas.List.{get_or-append-add, get_or-map, get_or_append_left, length-map, map-append}
use Rattle.std.proofs.lemmas.List.Elements.{All-append, All-cons, All-head, All-tail}
use Rattle.std.proofs.lemmas.List.Kept.{AllPairs-cons}
use Rattle.ats_facts.proofs.Lists.{pairs_head, pairs_tail}
use Rattle.ats_topology.specs.Port.{port_at}
use Rattle.ats_topology.specs.declared.port.Port.{Port}
use Rattle.ats_network.specs.Path.{nodes_along}
use Rattle.ats_network.proofs.Parts.{IsPart, part_later, part_same}
use Rattle.ats_network.proofs.PathLemmas.{away, comes_to-away, nodes_to}
use Rattle.ats_route_tree.proofs.Known.{is_in}

-- what is left of a list is a part of it
pub part_drop : (n : ℕ) (xs : List ℕ) → IsPart (drop n xs) xs
part_drop zero xs = part_same xs
part_drop (suc n) [] = tt
part_drop (suc n) (x ∷ xs) = part_later (drop n xs) xs x (part_drop n xs)

-- the pairs of two joined lists
pairs_joined : (R : ℕ → ℕ → Type 0) (xs ys : List ℕ) → AllPairs R xs → AllPairs R ys
    → All (λ x. All (R x) ys) xs → AllPairs R (xs ++ ys)
pairs_joined R [] ys first second across = second
pairs_joined R (x ∷ xs) ys first second across =
    AllPairs-cons R x (xs ++ ys) (All-append (R x) xs ys (pairs_head R x xs first)
    (All-head (λ z. All (R z) ys) x xs across))
    (pairs_joined R xs ys (pairs_tail R x xs first) second (All-tail (λ z. All (R z) ys) x xs across))

-- and those of the first of them
pub pairs_front : (R : ℕ → ℕ → Type 0) (xs ys : List ℕ) → AllPairs R (xs ++ ys) → AllPairs R xs
pairs_front R xs ys pairs = λ i j d below within.
    subst (λ (x : ℕ). R x (get_or xs j d)) (get_or_append_left xs ys d i (omega (arith, below, within)))
    (subst (λ (y : ℕ). R (get_or (xs ++ ys) i d) y) (get_or_append_left xs ys d j within)
    (pairs i j d below (omega (arith, within, length-append xs ys))))

-- the nodes of a tree with more ports, which lead to nodes that it does not have
pub apart_more : (ports : List Port) (talker : ℕ) (numbers own : List ℕ) → 0 < length numbers
    → (port_at ports (get_or numbers 0 0)).from ≡ talker
    → AllPairs (λ a b. a ≢ b) (nodes_along ports numbers) → AllPairs (λ a b. a ≢ b) (talker ∷ nodes_to ports own)
    → All (λ p. is_in ports numbers p ≡ false) own → AllPairs (λ a b. a ≢ b) (nodes_along ports (numbers ++ own))
apart_more ports talker [] own some from first second out = absurd (omega (arith, some))
apart_more ports talker (q ∷ numbers) own some from first second out =
    subst (AllPairs (λ a b. a ≢ b)) (sym whole)
    (pairs_joined (λ a b. a ≢ b) (nodes_along ports (q ∷ numbers)) (nodes_to ports own) first
    (pairs_tail (λ a b. a ≢ b) talker (nodes_to ports own) second) across)
  where
    whole : nodes_along ports (q ∷ numbers ++ own) ≡ nodes_along ports (q ∷ numbers) ++ nodes_to ports own
    whole = ap (λ (l : List ℕ). (port_at ports q).from ∷ l)
        (map-append (λ p. (port_at ports p).to) (q ∷ numbers) own)

    never : All (λ n. (port_at ports q).from ≢ n) (nodes_to ports own)
    never = subst (λ (t : ℕ). All (λ n. t ≢ n) (nodes_to ports own)) (sym from)
        (pairs_head (λ a b. a ≢ b) talker (nodes_to ports own) second)

    apart_from : (mine : List ℕ) → All (λ p. is_in ports (q ∷ numbers) p ≡ false) mine
        → All (λ n. All (λ m. n ≢ m) (nodes_to ports mine)) (nodes_to ports (q ∷ numbers))
    apart_from [] h = λ k d below i e inside. absurd (omega arith)
    apart_from (p ∷ mine) h =
        let here : All (λ n. (port_at ports p).to ≢ n) (nodes_to ports (q ∷ numbers)) =
        away ports (port_at ports p).to (q ∷ numbers)
        (All-head (λ x. is_in ports (q ∷ numbers) x ≡ false) p mine h) in
        let rest : All (λ n. All (λ m. n ≢ m) (nodes_to ports mine)) (nodes_to ports (q ∷ numbers)) =
        apart_from mine (All-tail (λ x. is_in ports (q ∷ numbers) x ≡ false) p mine h) in
        λ k d below. All-cons (λ m. get_or (nodes_to ports (q ∷ numbers)) k d ≢ m) (port_at ports p).to
        (nodes_to ports mine) (λ same. here k d below (sym same)) (rest k d below)

    across : All (λ n. All (λ m. n ≢ m) (nodes_to ports own)) (nodes_along ports (q ∷ numbers))
    across = All-cons (λ n. All (λ m. n ≢ m) (nodes_to ports own)) (port_at ports q).from
        (nodes_to ports (q ∷ numbers)) never (apart_from own out)

-- the nodes of the first of some ports
pub front_apart : (ports : List Port) (numbers own : List ℕ)
    → AllPairs (λ a b. a ≢ b) (nodes_along ports (numbers ++ own))
    → AllPairs (λ a b. a ≢ b) (nodes_along ports numbers)
front_apart ports [] own apart = λ i j d below within. absurd (omega (arith, below, within))
front_apart ports (q ∷ numbers) own apart =
    pairs_front (λ a b. a ≢ b) (nodes_along ports (q ∷ numbers)) (nodes_to ports own)
    (subst (AllPairs (λ a b. a ≢ b)) (ap (λ (l : List ℕ). (port_at ports q).from ∷ l)
    (map-append (λ p. (port_at ports p).to) (q ∷ numbers) own)) apart)

-- ports behind others that lead to other nodes lead out of these
pub behind_out : (ports : List Port) (numbers own : List ℕ) → AllPairs (λ a b. a ≢ b) (nodes_to ports (numbers ++ own))
    → All (λ p. is_in ports numbers p ≡ false) own
behind_out ports numbers own apart = λ k d within.
    comes_to-away ports (port_at ports (get_or own k d)).to numbers (λ i e below same.
    (let inside : i < length numbers = omega (arith, below, length-map numbers to) in
    let later : length numbers + k < length (numbers ++ own) = omega (arith, within, length-append numbers own) in
    apart i (length numbers + k) 0 (omega (arith, inside))
    (omega (arith, later, length-map (numbers ++ own) to))
    (get_or-map to (numbers ++ own) i d 0 (omega (arith, inside, later))
    ∙ ap to (get_or_append_left numbers own d i inside)
    ∙ sym (get_or-map to numbers i d e inside) ∙ sym same
    ∙ sym (ap to (get_or-append-add numbers own k d))
    ∙ sym (get_or-map to (numbers ++ own) (length numbers + k) d 0 later))))
  where
    to : ℕ → ℕ
    to p = (port_at ports p).to

-- the nodes of a path without its first one
pub to_apart : (ports : List Port) (numbers : List ℕ) → AllPairs (λ a b. a ≢ b) (nodes_along ports numbers)
    → AllPairs (λ a b. a ≢ b) (nodes_to ports numbers)
to_apart ports [] apart = λ i j d below within. absurd (omega (arith, below, within))
to_apart ports (p ∷ numbers) apart =
    pairs_tail (λ a b. a ≢ b) (port_at ports p).from (nodes_to ports (p ∷ numbers)) apart
