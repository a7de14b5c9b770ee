-- What the code needs to know of ports and legs.
use Rattle.std.proofs.Common.{◌≡◌, ℕ, suc, ◌+◌, ◌-◌, ◌<◌, ◌≤◌, Bool, true, false, cond, ◌||◌, ◌&&◌, List, []}
use Rattle.std.proofs.Common.{◌∷◌, ◌++◌, length, take, drop, get_or, Some, None, refl, sym, ap, subst, ◌∙◌, arith, eqb}
use Rattle.std.proofs.Common.{ltb}
use Rattle.std.proofs.Common.{length-drop, length-take}
use Rattle.std.specs.Global.{Vec}
use Rattle.std.specs.Prelude.{option_and_then}
use Rattle.std.specs.List.{All, list_any}
use Rattle.std.specs.Str.{bytes_eq}
use Rattle.std.proofs.lemmas.Bool.{eqb-true, false≢true, lt-ltb, ltb-false}
use Rattle.std.proofs.lemmas.Bool.Decides.{Decides-eqb}
use Rattle.std.proofs.lemmas.List.{drop_all, drop_more, get_or-map, length-map, length-take-le}
use Rattle.std.proofs.lemmas.List.{get_or-take, take-append-drop}
use Rattle.std.proofs.lemmas.List.Elements.{All-cons, All-head, All-nil, All-tail}
use Rattle.std.proofs.lemmas.Map.Made.{IsDistinct-from_AllPairs}
use Rattle.std.proofs.lemmas.Map.Steps.{length-le_from_distinct_below}
use Rattle.ats_streams.specs.Branches.{AreBranches, first_from, leg_at, legs_of, no_branch, routes_of}
use Rattle.ats_streams.proofs.BranchLemmas.{Spans, routes-length}
use Rattle.ats_streams.specs.declared.branch.Branch.{Branch}
use Rattle.ats_topology.specs.Port.{no_port, port_at}
use Rattle.ats_topology.specs.Topology.{DeclaredTopology, IsTopology}
use Rattle.ats_topology.specs.Walks.{ArePorts}
use Rattle.ats_topology.specs.declared.port.Port.{Port}
use Rattle.ats_topology.proofs.Rules.{ports_are_lawful}
use Rattle.ats_network.specs.Path.{IsTree, IsValidPath}
use Rattle.ats_network.proofs.PathLemmas.{nodes_to, walk_ports}
use Rattle.ats_network.proofs.TreeLemmas.{tree_ports}
use Rattle.ats_route_tree.specs.Legs.{DeclaredLegs}
use Rattle.ats_route_tree.specs.LegsView.{routes_in}
use Rattle.ats_route_tree.specs.Steps.{branch_behind, branch_first, goes_off, goes_off_first, grown, grown_where}
use Rattle.ats_route_tree.specs.Steps.{known_ports, leg_with, node_after}
use Rattle.ats_route_tree.specs.Steps.{place_to, with_first, with_known, with_route}
use Rattle.ats_route_tree.proofs.Apart.{to_apart}
use Rattle.ats_route_tree.proofs.Known.{is_in, known_are, known_more, none_known}
use Rattle.ats_route_tree.proofs.Places.{first_step}

-- a port of the topology
pub port_within : (ports : List Port) (numbers : List ℕ) (i : ℕ) → ArePorts ports numbers → i < length numbers
    → get_or numbers i 0 < length ports
port_within ports numbers i are within = are i 0 within

-- one port less is known where it leads out too
pub out_more : (ports : List Port) (numbers route : List ℕ) (count : ℕ) → 0 < count → count ≤ length route
    → is_in ports numbers (get_or route (count - 1) 0) ≡ false
    → All (λ p. is_in ports numbers p ≡ false) (drop count route)
    → All (λ p. is_in ports numbers p ≡ false) (drop (count - 1) route)
out_more ports numbers route count some within fails out =
    let Out : ℕ → Type 0 = λ p. is_in ports numbers p ≡ false in
    let next : count - 1 + 1 ≡ count = omega (arith, some) in
    subst (All Out) (sym (drop_more route (count - 1) 0 (omega (arith, some, within))))
    (All-cons Out (get_or route (count - 1) 0) (drop (count - 1 + 1) route) fails
    (subst (λ (n : ℕ). All Out (drop n route)) (sym next) out))

-- so many are known
pub known_is : (ports : List Port) (numbers route : List ℕ) (count : ℕ) → 0 < count → count ≤ length route
    → is_in ports numbers (get_or route (count - 1) 0) ≡ true
    → All (λ p. is_in ports numbers p ≡ false) (drop count route) → count ≡ known_ports ports numbers route
known_is ports numbers route count some within last out =
    let lead : List ℕ = take count route in
    let long : length lead ≡ count = length-take-le count route within in
    let known : known_ports ports numbers (lead ++ drop count route) ≡ length lead =
    known_are ports numbers lead (drop count route) out (omega (arith, long, some))
    (λ i h. (let at : count - 1 ≡ i = omega (arith, h, long) in
    subst (λ (p : ℕ). is_in ports numbers p ≡ true)
    (ap (λ (j : ℕ). get_or route j 0) at ∙ sym (get_or-take count route i 0 (omega (arith, h, long)))) last)) in
    sym long ∙ sym known ∙ ap (known_ports ports numbers) (take-append-drop count route)

pub none_is : (ports : List Port) (numbers route : List ℕ) (count : ℕ) → count ≡ 0
    → All (λ p. is_in ports numbers p ≡ false) (drop count route) → 0 ≡ known_ports ports numbers route
none_is ports numbers route count none out =
    sym (none_known ports numbers route (subst (λ (n : ℕ). All (λ p. is_in ports numbers p ≡ false) (drop n route)) none
    out))

pub all_out : (ports : List Port) (numbers route : List ℕ)
    → All (λ p. is_in ports numbers p ≡ false) (drop (length route) route)
all_out ports numbers route =
    subst (All (λ p. is_in ports numbers p ≡ false)) (sym (drop_all (length route) route (omega arith)))
    (All-nil (λ p. is_in ports numbers p ≡ false))

-- the leg with a place begins at it or in front of it
leg_begins : (at : ℕ) (branches : List Branch) (place : ℕ) → at ≤ place
    → first_from at branches (leg_with branches place) ≤ place
leg_begins at [] place from = from
leg_begins at (b ∷ branches) place from = by (ltb place b.first) refl (leg_begins b.first branches place)
  where
    by : (t : Bool) → ltb place b.first ≡ t
        → (b.first ≤ place → first_from b.first branches (leg_with branches place) ≤ place)
        → first_from at (b ∷ branches) (cond t 0 (suc (leg_with branches place))) ≤ place
    by true e more = from
    by false e more =
        subst (λ (n : ℕ). n ≤ place) (first_step at b branches (leg_with branches place))
        (more (ltb-false place b.first e))

pub leg_from : (branches : List Branch) (place leg : ℕ) → leg ≡ leg_with branches place
    → first_from 0 branches leg ≤ place
leg_from branches place leg is =
    subst (λ (n : ℕ). first_from 0 branches n ≤ place) (sym is) (leg_begins 0 branches place (omega arith))

pub legs_few : (branches : List Branch) (place : ℕ) → leg_with branches place ≤ length branches
legs_few [] place = omega arith
legs_few (b ∷ branches) place = by (ltb place b.first) (legs_few branches place)
  where
    by : (t : Bool) → leg_with branches place ≤ length branches
        → cond t 0 (suc (leg_with branches place)) ≤ suc (length branches)
    by true h = omega arith
    by false h = omega (arith, h)

-- a number that is in a list of numbers below n is below n
listed_below : (n : ℕ) (numbers : List ℕ) → All (λ m. m < n) numbers → (q : ℕ) → list_any (eqb q) numbers ≡ true → q < n
listed_below n [] all q listed = absurd (false≢true listed)
listed_below n (m ∷ numbers) all q listed =
    by (eqb q m) refl listed (listed_below n numbers (All-tail (λ m. m < n) m numbers all) q)
  where
    by : (t : Bool) → eqb q m ≡ t → (t || list_any (eqb q) numbers) ≡ true
        → (list_any (eqb q) numbers ≡ true → q < n) → q < n
    by true e h more = subst (λ (k : ℕ). k < n) (sym (eqb-true q m e)) (All-head (λ m. m < n) m numbers all)
    by false e h more = more h

nodes_below : (topology : DeclaredTopology) (numbers : List ℕ) → IsTopology topology → ArePorts topology.ports numbers
    → All (λ n. n < length topology.nodes) (nodes_to topology.ports numbers)
nodes_below topology [] is are = All-nil (λ n. n < length topology.nodes)
nodes_below topology (p ∷ numbers) is are =
    All-cons (λ n. n < length topology.nodes) (port_at topology.ports p).to (nodes_to topology.ports numbers)
    ((ports_are_lawful topology is).each p no_port (All-head (λ q. q < length topology.ports) p numbers are)).between.to
    (nodes_below topology numbers is (All-tail (λ q. q < length topology.ports) p numbers are))

-- the legs of a tree have fewer ports than there are nodes
pub tree_few : (topology : DeclaredTopology) (ports : List ℕ) (branches : List Branch) → IsTopology topology
    → AreBranches ports branches → IsTree topology ports branches → length ports ≤ 1024
tree_few topology ports branches is are tree =
    let nodes : List ℕ = nodes_to topology.ports ports in
    let few : length nodes ≤ length topology.nodes =
    length-le_from_distinct_below nodes (length topology.nodes)
    (IsDistinct-from_AllPairs Decides-eqb nodes (to_apart topology.ports ports tree.apart))
    (listed_below (length topology.nodes) nodes
    (nodes_below topology ports is (tree_ports topology ports branches are tree))) in
    omega (arith, few, is.few_nodes, length-map ports (λ q. (port_at topology.ports q).to))

pub valid_ports : (topology : DeclaredTopology) (path : List ℕ) → IsValidPath topology path
    → ArePorts topology.ports path
valid_ports topology path valid = walk_ports topology.ports valid.talker path valid.listener valid.walk

-- how many ports a leg has
pub span_length : (ports : List ℕ) (branches : List Branch) (leg from to : ℕ) → Spans ports branches leg from to
    → to - from ≡ length (leg_at (legs_of ports branches) leg)
span_length ports branches leg from to s =
    omega (
      arith,
      s.ordered,
      s.within,
      ap (λ (l : List ℕ). length l) s.leg_is,
      length-take (to - from) (drop from ports),
      length-drop from ports,
    )

-- the legs with one branch more
pub grown_is : (topology : DeclaredTopology) (legs : DeclaredLegs) (route : List ℕ) (count place : ℕ) (b : Branch)
    (next : DeclaredLegs) → 0 < count → known_ports topology.ports legs.ports route ≡ count
    → place_to topology.ports (node_after topology.ports route count) legs.ports ≡ Some place
    → branch_behind legs place ≡ b → goes_off legs route count b ≡ true → grown legs route count b ≡ next
    → with_route topology legs route ≡ Some next
grown_is topology legs route count place b next some known there branch passes same =
    ap (λ (n : ℕ). with_known topology legs route n) known
    ∙ known_more topology legs route count some
    ∙ ap (option_and_then (λ p. grown_where legs route count (branch_behind legs p))) there
    ∙ ap (λ (c : Branch). grown_where legs route count c) branch
    ∙ ap (λ (t : Bool). cond t (Some (grown legs route count b)) None) passes ∙ ap Some same

-- a route goes off at the talker by its tests
pub first_is : (ports : List Port) (legs : DeclaredLegs) (route : List ℕ) (next : DeclaredLegs)
    → goes_off_first ports legs route ≡ true → grown legs route 0 (branch_first legs) ≡ next
    → Some next ≡ with_first ports legs route
first_is ports legs route next passes same =
    sym (ap (λ (t : Bool). cond t (Some (grown legs route 0 (branch_first legs))) None) passes ∙ ap Some same)

-- the route of a leg among the routes that are given
pub route_at_leg : (routes : List (Vec ℕ)) (all : List (List ℕ)) (leg : ℕ) (r : Vec ℕ) → routes_in routes ≡ all
    → leg < length routes → r ≡ get_or routes leg r → leg_at all leg ≡ r.items
route_at_leg routes all leg r same within is =
    ap (λ (rs : List (List ℕ)). leg_at rs leg) (sym same)
    ∙ get_or-map (λ (route : Vec ℕ). route.items) routes leg r [] within
    ∙ ap (λ (v : Vec ℕ). v.items) (sym is)

pub leg_inside : (routes : List (Vec ℕ)) (ports : List ℕ) (branches : List Branch) (leg : ℕ)
    → routes_in routes ≡ routes_of ports branches → leg ≤ length branches → leg < length routes
leg_inside routes ports branches leg same within =
    omega (
      arith,
      within,
      routes-length ports branches,
      ap (λ (rs : List (List ℕ)). length rs) same,
      length-map routes (λ (route : Vec ℕ). route.items),
    )

-- the tests of a route that goes off, but for the last
pub off_is : (legs : DeclaredLegs) (route : List ℕ) (count : ℕ) (b : Branch) → 0 < count → count < length route
    → b.hop < length (leg_at (legs_of legs.ports legs.branches) b.leg)
    → bytes_eq (take count route) (take count (leg_at (routes_of legs.ports legs.branches) b.leg)) ≡ true
    → ltb (length legs.branches) 65535 ≡ goes_off legs route count b
off_is legs route count b some below within alike =
    let few : Bool = ltb (length legs.branches) 65535 in
    let same : Bool = bytes_eq (take count route) (take count (leg_at (routes_of legs.ports legs.branches) b.leg)) in
    let leg : List ℕ = leg_at (legs_of legs.ports legs.branches) b.leg in
    sym (ap (λ (t : Bool). t && (ltb count (length route) && (ltb b.hop (length leg) && (same && few))))
    (lt-ltb 0 count some)
    ∙ ap (λ (t : Bool). t && (ltb b.hop (length leg) && (same && few))) (lt-ltb count (length route) below)
    ∙ ap (λ (t : Bool). t && (same && few)) (lt-ltb b.hop (length leg) within)
    ∙ ap (λ (t : Bool). t && few) alike)

-- ports of the topology, under other names
pub ports_are : (ports other : List Port) (numbers mine : List ℕ) → mine ≡ numbers → other ≡ ports
    → ArePorts ports numbers → ArePorts other mine
ports_are ports other numbers mine same over are =
    subst (λ (ps : List Port). ArePorts ps mine) (sym over) (subst (ArePorts ports) (sym same) are)

-- the leg is found where the next branch begins behind the place, or where there is none
pub leg_here : (branches : List Branch) (i place leg : ℕ) → i < length branches
    → place < (get_or branches i no_branch).first → leg + leg_with (drop i branches) place ≡ leg_with branches place
    → leg ≡ leg_with branches place
leg_here branches i place leg within before all =
    let none : leg_with (drop i branches) place ≡ 0 =
    ap (λ (bs : List Branch). leg_with bs place) (drop_more branches i no_branch within)
    ∙ ap (λ (t : Bool). cond t 0 (suc (leg_with (drop (i + 1) branches) place)))
    (lt-ltb place (get_or branches i no_branch).first before) in
    omega (arith, all, none)

pub leg_end : (branches : List Branch) (i place leg : ℕ) → length branches ≤ i
    → leg + leg_with (drop i branches) place ≡ leg_with branches place → leg ≡ leg_with branches place
leg_end branches i place leg past all =
    let none : leg_with (drop i branches) place ≡ 0 =
    ap (λ (bs : List Branch). leg_with bs place) (drop_all i branches past) in
    omega (arith, all, none)
