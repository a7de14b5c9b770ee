-- Where the routes of a sender end.
use Rattle.std.proofs.Common.{◌≡◌, ℕ, zero, suc, ◌+◌, ◌-◌, ◌<◌, ◌≤◌, List, [], ◌++◌, length, get_or, ap, ◌∙◌}
use Rattle.std.proofs.Common.{arith, length-append}
use Rattle.std.proofs.lemmas.List.{get_or-append-add}
use Rattle.ats_streams.specs.Branches.{leads_of, leg_at, legs_of, routes_of}
use Rattle.ats_streams.proofs.BranchLemmas.{route-at}
use Rattle.ats_streams.proofs.Places.{branch_some}
use Rattle.ats_topology.specs.Port.{port_at}
use Rattle.ats_topology.specs.Topology.{DeclaredTopology, node_at}
use Rattle.ats_network.specs.Listeners.{end_of, station_of}
use Rattle.ats_network.specs.Sender.{Sender}
use Rattle.ats_network.specs.Senders.{IsSender}

-- each leg has a port
pub leg_some : (topology : DeclaredTopology) (s : Sender) (n : ℕ) → IsSender topology s → n ≤ length s.branches
    → 0 < length (leg_at (legs_of s.ports s.branches) n)
leg_some topology s zero is within = is.tree.trunk.some
leg_some topology s (suc n) is within = branch_some 0 s.ports s.branches n is.branches.places (omega (arith, within))

-- the last port of a leg
abbrev pub last_of : Sender → ℕ → ℕ
last_of s n =
    get_or (leg_at (legs_of s.ports s.branches) n) (length (leg_at (legs_of s.ports s.branches) n) - 1) 0

-- joined lists end as the second
last_same : (xs ys : List ℕ) → 0 < length ys
    → get_or (xs ++ ys) (length (xs ++ ys) - 1) 0 ≡ get_or ys (length ys - 1) 0
last_same xs ys some =
    let place : length (xs ++ ys) - 1 ≡ length xs + (length ys - 1) = omega (arith, some, length-append xs ys) in
    ap (λ (k : ℕ). get_or (xs ++ ys) k 0) place ∙ get_or-append-add xs ys (length ys - 1) 0

-- a route ends where the last port of its leg leads
pub route_ends : (topology : DeclaredTopology) (s : Sender) (n : ℕ) → IsSender topology s → n ≤ length s.branches
    → end_of topology.ports (leg_at (routes_of s.ports s.branches) n) ≡ (port_at topology.ports (last_of s n)).to
route_ends topology s n is within =
    let lead : List ℕ = leg_at (leads_of s.ports s.branches) n in
    let leg : List ℕ = leg_at (legs_of s.ports s.branches) n in
    ap (end_of topology.ports) (route-at s.ports s.branches n [] within)
    ∙ ap (λ (p : ℕ). (port_at topology.ports p).to) (last_same lead leg (leg_some topology s n is within))

-- so at the node to which its leg leads
pub station_at_end : (topology : DeclaredTopology) (s : Sender) (n : ℕ) → IsSender topology s → n ≤ length s.branches
    → station_of topology (leg_at (routes_of s.ports s.branches) n)
    ≡ station_of topology (leg_at (legs_of s.ports s.branches) n)
station_at_end topology s n is within =
    ap (λ (node : ℕ). (node_at topology.nodes node).name) (route_ends topology s n is within)
