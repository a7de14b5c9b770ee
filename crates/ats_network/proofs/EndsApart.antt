-- No route of a tree ends at a node of another one, nor does a path at a station on the way to another station.
use Rattle.std.proofs.Common.{◌≡◌, ◌≢◌, ℕ, zero, suc, ◌+◌, ◌-◌, ◌<◌, ◌≤◌, ◌⊎◌, inl, inr, List, [], ◌∷◌, ◌++◌, length}
use Rattle.std.proofs.Common.{take, get_or, sym, ap, subst, ◌∙◌, arith, length-append}
use Rattle.std.specs.List.{All, AllPairs}
use Rattle.std.proofs.lemmas.Bool.{cases_lt, cases_order, true≢false}
use Rattle.std.proofs.lemmas.List.{get_or-append-add, get_or-map, get_or-take, length-map, length-take-le, take_all}
use Rattle.std.proofs.lemmas.List.Elements.{All-append, All-cons, All-from_get_or, All-nil, All-tail}
use Rattle.ats_facts.proofs.Lists.{pairs_head, pairs_tail}
use Rattle.ats_streams.specs.Branches.{AreBranches, BeginsEarlier, first_from, leads_of, leg_at, legs_of, no_branch}
use Rattle.ats_streams.specs.Branches.{routes_of}
use Rattle.ats_streams.specs.declared.branch.Branch.{Branch}
use Rattle.ats_streams.proofs.BranchLemmas.{begins_at, lead_of, lead_of_trunk, route-at, routes-length}
use Rattle.ats_streams.proofs.Places.{IsPlace, branch_some, is_place}
use Rattle.ats_topology.specs.Port.{port_at}
use Rattle.ats_topology.specs.Topology.{DeclaredTopology, IsStationAt}
use Rattle.ats_topology.specs.Walks.{IsWalk}
use Rattle.ats_topology.specs.declared.port.Port.{Port}
use Rattle.ats_network.specs.Bridges.{IsBridgeAt, MeetAtBridge}
use Rattle.ats_network.specs.Laws.{EndApart, StationsEndApart}
use Rattle.ats_network.specs.Listeners.{end_of}
use Rattle.ats_network.specs.Path.{IsTree, IsValidPath, nodes_along}
use Rattle.ats_network.proofs.BridgeLemmas.{meet_at_bridges}
use Rattle.ats_network.proofs.LeastWalkLemmas.{ends_once, neighbours_at, walk_upto}
use Rattle.ats_network.proofs.PathLemmas.{nodes_to}
use Rattle.ats_network.proofs.ValidRoutes.{first_rises, from_talker, nodes_apart, route_begins}

-- no node along a path is this one
abbrev pub Avoids : List Port → List ℕ → ℕ → Type 0
Avoids ports path end = All (λ (node : ℕ). node ≢ end) (nodes_along ports path)

-- a walk ends where its last port leads
pub walk_ends : (ports : List Port) (a b : ℕ) (path : List ℕ) → IsWalk ports a b path → 0 < length path
    → end_of ports path ≡ b
walk_ends ports a b path walk some =
    let all : take (suc (length path - 1)) path ≡ path = take_all (suc (length path - 1)) path (omega (arith, some)) in
    ends_once ports a (end_of ports path) b path
    (subst (IsWalk ports a (end_of ports path)) all (walk_upto ports a b path (length path - 1) walk
    (omega (arith, some)))) walk

-- what holds of each node along a path holds of that to which a port of it leads, and the other way round
pub node_on : (R : ℕ → Type 0) (ports : List Port) (path : List ℕ) (i : ℕ) → i < length path
    → All R (nodes_along ports path) → R (port_at ports (get_or path i 0)).to
node_on R ports [] i within all = absurd (omega (arith, within))
node_on R ports (p ∷ path) i within all =
    subst R (get_or-map (λ q. (port_at ports q).to) (p ∷ path) i 0 0 within)
    (All-tail R (port_at ports p).from (nodes_to ports (p ∷ path)) all i 0
    (omega (arith, within, length-map (p ∷ path) (λ q. (port_at ports q).to))))

all_nodes : (R : ℕ → Type 0) (ports : List Port) (path : List ℕ) → R (port_at ports (get_or path 0 0)).from
    → ((i : ℕ) → i < length path → R (port_at ports (get_or path i 0)).to) → All R (nodes_along ports path)
all_nodes R ports [] first each = All-nil R
all_nodes R ports (p ∷ path) first each =
    All-cons R (port_at ports p).from (nodes_to ports (p ∷ path)) first
    (All-from_get_or R (nodes_to ports (p ∷ path)) 0 (λ i h.
    (let within : i < length (p ∷ path) = omega (arith, h, length-map (p ∷ path) (λ q. (port_at ports q).to)) in
    subst R (sym (get_or-map (λ q. (port_at ports q).to) (p ∷ path) i 0 0 within)) (each i within))))

-- the same node twice along ports that lead to different ones is at one place
pub one_place : (ports : List Port) (numbers : List ℕ) (i j : ℕ) → AllPairs (λ a b. a ≢ b) (nodes_to ports numbers)
    → i < length numbers → j < length numbers
    → (port_at ports (get_or numbers i 0)).to ≡ (port_at ports (get_or numbers j 0)).to → i ≡ j
one_place ports numbers i j apart first second same = by (cases_lt i j) (cases_lt j i)
  where
    to : ℕ → ℕ
    to p = (port_at ports p).to

    never : (m n : ℕ) → m < n → n < length numbers → to (get_or numbers m 0) ≡ to (get_or numbers n 0) → ⊥
    never m n below within e = apart m n 0 below (omega (arith, within, length-map numbers to))
        (get_or-map to numbers m 0 0 (omega (arith, below, within)) ∙ e ∙ sym (get_or-map to numbers n 0 0 within))

    by : (i < j) ⊎ (j ≤ i) → (j < i) ⊎ (i ≤ j) → i ≡ j
    by (inl below) other = absurd (never i j below second same)
    by (inr past) (inl above) = absurd (never j i above first (sym same))
    by (inr past) (inr under) = omega (arith, past, under)

-- a port of a leg, not its last
record IsInner (ports : List ℕ) (branches : List Branch) (p : ℕ) : Type 0 where
  leg : ℕ
  hop : ℕ
  inside : leg ≤ length branches
  more : suc hop < length (leg_at (legs_of ports branches) leg)
  is : get_or (leg_at (legs_of ports branches) leg) hop 0 ≡ p

-- such is each port in front of a leg
lead_inner : (ports : List ℕ) (branches : List Branch) → AreBranches ports branches → (fuel n : ℕ) → n ≤ fuel
    → n ≤ length branches → All (IsInner ports branches) (leg_at (leads_of ports branches) n)
lead_inner ports branches are fuel zero enough within =
    subst (All (IsInner ports branches)) (sym (lead_of_trunk ports branches)) (All-nil (IsInner ports branches))
lead_inner ports branches are zero (suc n) enough within = absurd (omega (arith, enough))
lead_inner ports branches are (suc fuel) (suc n) enough within =
    let b : Branch = get_or branches n no_branch in
    let legs : List (List ℕ) = legs_of ports branches in
    let leads : List (List ℕ) = leads_of ports branches in
    let leg : List ℕ = leg_at legs b.leg in
    let begins : BeginsEarlier legs (1 + n) b = begins_at legs 1 branches n are.begin (omega (arith, within)) in
    let next : 1 + n ≡ suc n = omega arith in
    let long : length (take b.hop leg) ≡ b.hop = length-take-le b.hop leg (omega (arith, begins.within)) in
    subst (λ (k : ℕ). All (IsInner ports branches) (leg_at leads k)) next
    (subst (All (IsInner ports branches)) (sym (lead_of ports branches n are (omega (arith, within))))
    (All-append (IsInner ports branches) (leg_at leads b.leg) (take b.hop leg)
    (lead_inner ports branches are fuel b.leg (omega (arith, begins.earlier, enough))
    (omega (arith, begins.earlier, within)))
    (All-from_get_or (IsInner ports branches) (take b.hop leg) 0 (λ i h. (record {
      leg = b.leg;
      hop = i;
      inside = omega (arith, begins.earlier, within);
      more = omega (arith, h, long, begins.within);
      is = sym (get_or-take b.hop leg i 0 (omega (arith, h, long)));
    })))))

-- so the last port of a leg is on no other route: it stands at another place than each port there
place_apart : (ports : List ℕ) (branches : List Branch) → AreBranches ports branches
    → 0 < length (leg_at (legs_of ports branches) 0) → (m h i : ℕ)
    → m ≤ length branches → h < length (leg_at (legs_of ports branches) m) → i ≤ length branches
    → (suc h < length (leg_at (legs_of ports branches) m)) ⊎ (m ≢ i)
    → 0 < length (leg_at (legs_of ports branches) i)
    → first_from 0 branches m + h ≢ first_from 0 branches i + (length (leg_at (legs_of ports branches) i) - 1)
place_apart ports branches are some m h i in_m within in_i either last = by (cases_order m i) either
  where
    legs : List (List ℕ)
    legs = legs_of ports branches

    here : IsPlace 0 ports branches m h
    here = is_place 0 ports branches m h are.places (omega arith) in_m within

    there : IsPlace 0 ports branches i (length (leg_at legs i) - 1)
    there = is_place 0 ports branches i (length (leg_at legs i) - 1) are.places (omega arith) in_i
        (omega (arith, last))

    rises : (x y : ℕ) → x < y → y ≤ length branches → (get_or branches x no_branch).first ≤ first_from 0 branches y
    rises x y below inside = first_rises 0 branches (length ports) (suc x) y are.places (omega (arith, below)) inside

    by : (m ≡ i) ⊎ ((m < i) ⊎ (i < m)) → (suc h < length (leg_at legs m)) ⊎ (m ≢ i)
        → first_from 0 branches m + h ≢ first_from 0 branches i + (length (leg_at legs i) - 1)
    by (inl e) (inl more) = λ same.
        omega (arith, same, more, ap (first_from 0 branches) e, ap (λ (k : ℕ). length (leg_at legs k)) e)
    by (inl e) (inr other) = absurd (other e)
    by (inr (inl below)) either = λ same.
        omega (arith, same, here.below (omega (arith, below, in_i)), rises m i below in_i)
    by (inr (inr above)) either = λ same.
        omega (arith, same, there.below (omega (arith, above, in_m)), rises i m above in_m)

tree_ends_apart : (topology : DeclaredTopology) (ports : List ℕ) (branches : List Branch) → AreBranches ports branches
    → IsTree topology ports branches → EndApart topology (routes_of ports branches)
tree_ends_apart topology ports branches are tree i j in_i in_j other =
    subst (λ (e : ℕ). Avoids P (get_or (routes_of ports branches) j []) e) (sym end_is)
    (subst (λ (r : List ℕ). Avoids P r (port_at P last).to) (sym (route-at ports branches j [] j_in))
    (all_nodes (λ (node : ℕ). node ≢ (port_at P last).to) P (route j) first each))
  where
    P : List Port
    P = topology.ports

    legs : List (List ℕ)
    legs = legs_of ports branches

    leg : ℕ → List ℕ
    leg n = leg_at legs n

    lead : ℕ → List ℕ
    lead n = leg_at (leads_of ports branches) n

    route : ℕ → List ℕ
    route n = lead n ++ leg n

    many : length (routes_of ports branches) ≡ suc (length branches)
    many = routes-length ports branches

    i_in : i ≤ length branches
    i_in = omega (arith, in_i, many)

    j_in : j ≤ length branches
    j_in = omega (arith, in_j, many)

    leg_some : (n : ℕ) → n ≤ length branches → 0 < length (leg_at (legs_of ports branches) n)
    leg_some zero h = tree.trunk.some
    leg_some (suc n) h = branch_some 0 ports branches n are.places (omega (arith, h))

    place : ℕ
    place = first_from 0 branches i + (length (leg_at (legs_of ports branches) i) - 1)

    at : IsPlace 0 ports branches i (length (leg_at (legs_of ports branches) i) - 1)
    at = is_place 0 ports branches i (length (leg_at (legs_of ports branches) i) - 1) are.places (omega arith) i_in
        (omega (arith, leg_some i i_in))

    last : ℕ
    last = get_or ports place 0

    -- the route ends where the last port of its leg leads
    end_is : end_of topology.ports (get_or (routes_of ports branches) i []) ≡ (port_at topology.ports last).to
    end_is =
        let spot : length (route i) - 1 ≡ length (lead i) + (length (leg i) - 1) =
        omega (arith, length-append (lead i) (leg i), leg_some i i_in) in
        ap (end_of P) (route-at ports branches i [] i_in)
        ∙ ap (λ (k : ℕ). (port_at P (get_or (route i) k 0)).to) spot
        ∙ ap (λ (p : ℕ). (port_at P p).to) (get_or-append-add (lead i) (leg i) (length (leg i) - 1) 0 ∙ sym at.port)

    all : AllPairs (λ a b. a ≢ b) (tree.trunk.talker ∷ nodes_to topology.ports ports)
    all = nodes_apart P tree.trunk.talker ports (from_talker topology ports branches tree tree.trunk.some) tree.apart

    -- the talker is no end
    first : (port_at topology.ports (get_or (lead j ++ leg j) 0 0)).from ≢ (port_at topology.ports last).to
    first same =
        pairs_head (λ a b. a ≢ b) tree.trunk.talker (nodes_to P ports) all place 0
        (omega (arith, at.within, length-map ports (λ q. (port_at P q).to)))
        (sym (route_begins topology ports branches are tree j j_in) ∙ same
        ∙ sym (get_or-map (λ q. (port_at P q).to) ports place 0 0 at.within))

    -- nor is a node to which a port of the other route leads
    apart_at : (m h : ℕ) → m ≤ length branches → h < length (leg_at (legs_of ports branches) m)
        → (suc h < length (leg_at (legs_of ports branches) m)) ⊎ (m ≢ i)
        → (port_at topology.ports (get_or (leg_at (legs_of ports branches) m) h 0)).to
        ≢ (port_at topology.ports last).to
    apart_at m h in_m within either same =
        let here : IsPlace 0 ports branches m h =
        is_place 0 ports branches m h are.places (omega arith) in_m within in
        place_apart ports branches are tree.trunk.some m h i in_m within i_in either (leg_some i i_in)
        (one_place P ports (first_from 0 branches m + h) place
        (pairs_tail (λ a b. a ≢ b) tree.trunk.talker (nodes_to P ports) all) here.within at.within
        (ap (λ (p : ℕ). (port_at P p).to) here.port ∙ same))

    Away : ℕ → Type 0
    Away p = (port_at topology.ports p).to ≢ (port_at topology.ports last).to

    of_lead : All Away (leg_at (leads_of ports branches) j)
    of_lead = All-from_get_or Away (lead j) 0 (λ k h. (
        let s : IsInner ports branches (get_or (lead j) k 0) =
        lead_inner ports branches are j j (omega arith) j_in k 0 h in
        subst Away s.is (apart_at s.leg s.hop s.inside (omega (arith, s.more)) (inl s.more))))

    of_leg : All Away (leg_at (legs_of ports branches) j)
    of_leg = All-from_get_or Away (leg j) 0
        (λ k h. apart_at j k j_in h (inr (λ same. other (sym same))))

    each : (k : ℕ) → k < length (lead j ++ leg j)
        → (port_at topology.ports (get_or (lead j ++ leg j) k 0)).to ≢ (port_at topology.ports last).to
    each k h = All-append Away (lead j) (leg j) of_lead of_leg k 0 h

pub made_ends_apart : (topology : DeclaredTopology) (ports : List ℕ) (branches : List Branch)
    (routes : List (List ℕ)) → AreBranches ports branches → IsTree topology ports branches
    → routes_of ports branches ≡ routes → EndApart topology routes
made_ends_apart topology ports branches routes are tree same =
    subst (EndApart topology) same (tree_ends_apart topology ports branches are tree)

-- stations on the way

pub stations_end_apart : StationsEndApart
stations_end_apart topology talker paths is valid begin stations apart i j in_i in_j other =
    all_nodes (λ (node : ℕ). node ≢ end_of topology.ports (get_or paths i [])) P (get_or paths j []) first
    (λ k h. by k h (cases_lt (suc k) (length (get_or paths j []))))
  where
    P : List Port
    P = topology.ports

    mine : List ℕ
    mine = get_or paths i []

    valid_i : IsValidPath topology (get_or paths i [])
    valid_i = valid i [] in_i

    valid_j : IsValidPath topology (get_or paths j [])
    valid_j = valid j [] in_j

    nodes : AllPairs (λ a b. a ≢ b) (talker ∷ nodes_to topology.ports (get_or paths i []))
    nodes = nodes_apart P talker mine (begin i [] in_i) valid_i.apart

    first : (port_at topology.ports (get_or (get_or paths j []) 0 0)).from
        ≢ end_of topology.ports (get_or paths i [])
    first same =
        pairs_head (λ a b. a ≢ b) talker (nodes_to P mine) nodes (length mine - 1) 0
        (omega (arith, valid_i.some, length-map mine (λ q. (port_at P q).to)))
        (sym (begin j [] in_j) ∙ same
        ∙ sym (get_or-map (λ q. (port_at P q).to) mine (length mine - 1) 0 0 (omega (arith, valid_i.some))))

    ends : end_of topology.ports (get_or paths j []) ≢ end_of topology.ports (get_or paths i [])
    ends same = at (cases_order i j)
      where
        at : (i ≡ j) ⊎ ((i < j) ⊎ (j < i)) → ⊥
        at (inl e) = other e
        at (inr (inl below)) = apart i j [] below in_j (sym same)
        at (inr (inr above)) = apart j i [] above in_i same

    by : (k : ℕ) → k < length (get_or paths j [])
        → (suc k < length (get_or paths j [])) ⊎ (length (get_or paths j []) ≤ suc k)
        → (port_at topology.ports (get_or (get_or paths j []) k 0)).to ≢ end_of topology.ports (get_or paths i [])
    by k h (inl more) same =
        let meet : MeetAtBridge topology (get_or (get_or paths j []) k 0) (get_or (get_or paths j []) (suc k) 0) =
        neighbours_at (MeetAtBridge topology) (get_or paths j []) k
        (meet_at_bridges topology (get_or paths j []) is valid_j) more in
        let bridge : IsBridgeAt topology (end_of P mine) = subst (IsBridgeAt topology) same meet.bridge in
        let station : IsStationAt topology (end_of P mine) = stations i [] in_i in
        true≢false (sym station.station ∙ bridge.bridge)
    by k h (inr past) same =
        let last : length (get_or paths j []) - 1 ≡ k = omega (arith, past, h) in
        ends (ap (λ (n : ℕ). (port_at P (get_or (get_or paths j []) n 0)).to) last ∙ same)
