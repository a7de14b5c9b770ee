use Rattle.std.proofs.Common.{◌≡◌, ℕ, ◌+◌, ◌*◌, ◌<◌, Bool, true, false, cond, ◌&&◌, ◌||◌, List, [], ◌∷◌, ◌++◌, length}
use Rattle.std.proofs.Common.{get_or, take, Option, Some, None, refl, sym, ap, ◌∙◌, arith, eqb, subst, IsSome}
use Rattle.std.proofs.Common.{append_assoc}
use Rattle.std.specs.Prelude.{is_some, is_none, unwrap_or}
use Rattle.std.specs.List.{position_from, list_any, All}
use Rattle.std.specs.Str.{bytes_eq}
use Rattle.std.proofs.lemmas.Bool.{ne_eqb, and_left, or_parts}
use Rattle.std.proofs.lemmas.List.{take_more, flat_map_more}
use Rattle.std.proofs.lemmas.List.Elements.{All-head, All-tail, All-take}
use Rattle.ats_facts.proofs.Lists.{position_from-push}
use Rattle.ats_num.specs.Places.{place_of}
use Rattle.ats_topology.specs.Node.{names_of, AreApart}
use Rattle.ats_topology.specs.Link.{joins}
use Rattle.ats_topology.specs.Rates.{ps_per_bit_of}
use Rattle.ats_topology.specs.Port.{goes, port_between}
use Rattle.ats_topology.specs.Faults.{link_twice, bad_rate, has_bad_rate, is_link_again}
use Rattle.ats_topology.specs.Topology.{node_number, port_of, link_ports, ports_of}
use Rattle.ats_topology.specs.declared.fault.TopologyFault.TheVariants.{LinkTwice, BadRate}
use Rattle.ats_topology.specs.declared.node.Node.{Node}
use Rattle.ats_topology.specs.declared.link.Link.{Link}
use Rattle.ats_topology.specs.declared.port.Port.{Port}
use Rattle.ats_topology.proofs.FirstBelow.{none_below}
use Rattle.ats_topology.proofs.PositionLemmas.{all_fail}
use Rattle.ats_topology.proofs.NameLemmas.{length-names_of}
use Rattle.ats_topology.proofs.Known.{IsOpen, no_place, name_there, number_is}
use Rattle.ats_topology.proofs.LinkLemmas.{link_at, and_comm}

-- the number of a name that is found
pub node_number_is : (nodes : List Node) (name : List ℕ) (n : ℕ) → place_of name (names_of nodes) ≡ Some n
    → node_number nodes name ≡ n
node_number_is nodes name n at = ap (λ (o : Option ℕ). unwrap_or o 0) at

-- it is the number of a node
pub node_number_within : (nodes : List Node) (name : List ℕ) (n : ℕ) → place_of name (names_of nodes) ≡ Some n
    → node_number nodes name < length nodes
node_number_within nodes name n at =
    omega (arith, node_number_is nodes name n at, (name_there (names_of nodes) name n at).0, length-names_of nodes)

-- a name has the number of another name where they are the same
pub same_number : (nodes : List Node) → AreApart (names_of nodes) → (x y : List ℕ) (m n : ℕ)
    → place_of x (names_of nodes) ≡ Some m → place_of y (names_of nodes) ≡ Some n
    → eqb (node_number nodes x) n ≡ bytes_eq x y
same_number nodes separate x y m n at_x at_y =
    ap (λ (k : ℕ). eqb k n) (node_number_is nodes x m at_x)
    ∙ number_is (names_of nodes) separate x m n at_x (name_there (names_of nodes) y n at_y).0
    ∙ ap (bytes_eq x) (sym (name_there (names_of nodes) y n at_y).1)

passed_over : (b : Bool) (k : ℕ) (o : Option ℕ) → b ≡ false → o ≡ None → cond b (Some k) o ≡ None
passed_over b k o h g = ap (λ (t : Bool). cond t (Some k) o) h ∙ g

-- where no link joins two names, no port goes from the node of one to that of the other
pub no_port_between : (nodes : List Node) → AreApart (names_of nodes) → (x y : List ℕ) (m n : ℕ)
    → place_of x (names_of nodes) ≡ Some m → place_of y (names_of nodes) ≡ Some n
    → (k : ℕ) (links : List Link) → All (IsOpen (names_of nodes)) links → list_any (joins x y) links ≡ false
    → position_from (goes m n) k (ports_of nodes links) ≡ None
no_port_between nodes separate x y m n at_x at_y k [] opens none = refl
no_port_between nodes separate x y m n at_x at_y k (link ∷ links) opens none =
    let o : IsOpen (names_of nodes) link = All-head (IsOpen (names_of nodes)) link links opens in
    let parts : (joins x y link ≡ false) × (list_any (joins x y) links ≡ false) =
    or_parts (joins x y link) (list_any (joins x y) links) none in
    let ways : ((bytes_eq link.a x && bytes_eq link.b y) ≡ false) × ((bytes_eq link.a y && bytes_eq link.b x) ≡ false) =
    or_parts (bytes_eq link.a x && bytes_eq link.b y) (bytes_eq link.a y && bytes_eq link.b x) parts.0 in
    let there : goes m n (port_of nodes link link.a link.b) ≡ false =
    ap (λ (t : Bool). t && eqb (node_number nodes link.b) n) (same_number nodes separate link.a x o.a m o.a_at at_x)
    ∙ ap (λ (t : Bool). bytes_eq link.a x && t) (same_number nodes separate link.b y o.b n o.b_at at_y) ∙ ways.0 in
    let back : goes m n (port_of nodes link link.b link.a) ≡ false =
    ap (λ (t : Bool). t && eqb (node_number nodes link.a) n) (same_number nodes separate link.b x o.b m o.b_at at_x)
    ∙ ap (λ (t : Bool). bytes_eq link.b x && t) (same_number nodes separate link.a y o.a n o.a_at at_y)
    ∙ and_comm (bytes_eq link.b x) (bytes_eq link.a y) ∙ ways.1 in
    let rest = no_port_between nodes separate x y m n at_x at_y ((k + 1) + 1) links
    (All-tail (IsOpen (names_of nodes)) link links opens) parts.1 in
    passed_over (goes m n (port_of nodes link link.a link.b)) k _ there
    (passed_over (goes m n (port_of nodes link link.b link.a)) (k + 1) _ back rest)

-- no link before a place joins what the link there joins
pub not_again : (links : List Link) → link_twice links ≡ None → (i : ℕ) (link : Link) → i < length links
    → link ≡ get_or links i link → list_any (joins link.a link.b) (take i links) ≡ false
not_again links none i link within read =
    ap (λ (l : Link). list_any (joins l.a l.b) (take i links)) (sym (link_at links i link within read))
    ∙ none_below (is_link_again links) (length links) i (no_place LinkTwice _ none) within

rated : (o : Option ℕ) → is_none o ≡ false → IsSome o
rated None h = sym h
rated (Some n) h = refl

-- a link may have the rate of each link
pub has_rate : (links : List Link) → bad_rate links ≡ None → (i : ℕ) (link : Link) → i < length links
    → link ≡ get_or links i link → IsSome (ps_per_bit_of link.mbps)
has_rate links none i link within read =
    subst (λ (l : Link). IsSome (ps_per_bit_of l.mbps)) (sym read)
    (rated (ps_per_bit_of (get_or links i link).mbps)
    (all_fail has_bad_rate 0 links (no_place BadRate _ none) i link within))

pub length-ports_of : (nodes : List Node) (links : List Link) → length (ports_of nodes links) ≡ 2 * length links
length-ports_of nodes [] = refl
length-ports_of nodes (link ∷ links) = omega (arith, length-ports_of nodes links)

-- the ports of one link more
pub more_ports : (nodes : List Node) (links : List Link) (i : ℕ) (link : Link) → i < length links
    → link ≡ get_or links i link
    → (ports_of nodes (take i links) ++ port_of nodes link link.a link.b ∷ []) ++ port_of nodes link link.b link.a ∷ []
    ≡ ports_of nodes (take (i + 1) links)
more_ports nodes links i link within read =
    append_assoc (ports_of nodes (take i links)) (port_of nodes link link.a link.b ∷ [])
    (port_of nodes link link.b link.a ∷ [])
    ∙ flat_map_more (link_ports nodes) [] (take i links) link
    ∙ ap (ports_of nodes) (sym (take_more links i link within ∙ ap (λ (l : Link). take i links ++ l ∷ []) (sym read)))

-- the first port of a link is not yet there
pub first_absent : (nodes : List Node) → AreApart (names_of nodes) → (links : List Link)
    → All (IsOpen (names_of nodes)) links → link_twice links ≡ None → (i : ℕ) (link : Link) → i < length links
    → link ≡ get_or links i link → IsOpen (names_of nodes) link
    → port_between (node_number nodes link.a) (node_number nodes link.b) (ports_of nodes (take i links)) ≡ None
first_absent nodes separate links opens none i link within read o =
    ap (λ (n : ℕ). port_between n (node_number nodes link.b) (ports_of nodes (take i links)))
    (node_number_is nodes link.a o.a o.a_at)
    ∙ ap (λ (n : ℕ). port_between o.a n (ports_of nodes (take i links))) (node_number_is nodes link.b o.b o.b_at)
    ∙ no_port_between nodes separate link.a link.b o.a o.b o.a_at o.b_at 0 (take i links)
    (All-take (IsOpen (names_of nodes)) i links opens) (not_again links none i link within read)

joins_comm : (x y : List ℕ) (links : List Link) → list_any (joins x y) links ≡ list_any (joins y x) links
joins_comm x y [] = refl
joins_comm x y (link ∷ links) =
    ap (λ (t : Bool). t || list_any (joins x y) links)
    (or_comm (bytes_eq link.a x && bytes_eq link.b y) (bytes_eq link.a y && bytes_eq link.b x))
    ∙ ap (λ (t : Bool). joins y x link || t) (joins_comm x y links)
  where
    or_comm : (p q : Bool) → (p || q) ≡ (q || p)
    or_comm true true = refl
    or_comm true false = refl
    or_comm false true = refl
    or_comm false false = refl

-- nor is its second port, also after the first
pub second_absent : (nodes : List Node) → AreApart (names_of nodes) → (links : List Link)
    → All (IsOpen (names_of nodes)) links → link_twice links ≡ None → (i : ℕ) (link : Link) → i < length links
    → link ≡ get_or links i link → IsOpen (names_of nodes) link
    → port_between (node_number nodes link.b) (node_number nodes link.a)
    (ports_of nodes (take i links) ++ port_of nodes link link.a link.b ∷ []) ≡ None
second_absent nodes separate links opens none i link within read o =
    let before : List Port = ports_of nodes (take i links) in
    let there : Port = port_of nodes link link.a link.b in
    let test : Port → Bool = goes (node_number nodes link.b) (node_number nodes link.a) in
    let absent : position_from test 0 before ≡ None =
    ap (λ (n : ℕ). port_between n (node_number nodes link.a) before) (node_number_is nodes link.b o.b o.b_at)
    ∙ ap (λ (n : ℕ). port_between o.b n before) (node_number_is nodes link.a o.a o.a_at)
    ∙ no_port_between nodes separate link.b link.a o.b o.a o.b_at o.a_at 0 (take i links)
    (All-take (IsOpen (names_of nodes)) i links opens)
    (joins_comm link.b link.a (take i links) ∙ not_again links none i link within read) in
    let apart : eqb (node_number nodes link.a) (node_number nodes link.b) ≡ false =
    ne_eqb (node_number nodes link.a) (node_number nodes link.b)
    (λ e. o.differ (sym (node_number_is nodes link.a o.a o.a_at) ∙ e ∙ node_number_is nodes link.b o.b o.b_at)) in
    let fails : test there ≡ false = and_left (eqb (node_number nodes link.a) (node_number nodes link.b))
    (eqb (node_number nodes link.b) (node_number nodes link.a)) apart in
    position_from-push test 0 before there
    ∙ ap (λ (q : Option ℕ). cond (is_some q) q (cond (test there) (Some (0 + length before)) None)) absent
    ∙ ap (λ (t : Bool). cond t (Some (0 + length before)) None) fails
