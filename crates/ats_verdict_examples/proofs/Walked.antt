use Rattle.std.proofs.Common.{◌≡◌, ℕ, ◌≤◌, true, List, [], ◌∷◌, length, refl, ap, arith, lit<}
use Rattle.std.specs.Prelude.{nat_lt, slice_index_or}
use Rattle.ats_topology.specs.Port.{port_at}
use Rattle.ats_topology.specs.Topology.{IsTopology}
use Rattle.ats_topology.specs.Walks.{IsWalk, IsLeastWalk}
use Rattle.ats_topology.proofs.LawLemmas.{walk_is_one}
use Rattle.ats_topology.proofs.Rules.{topology_rules}
use Rattle.ats_network.proofs.RouteLemmas.{shortest_least}
use Rattle.ats_examples.proofs.Tests.{lt_of}
use Rattle.ats_topology.specs.declared.port.Port.{Port}
use Rattle.ats_verdict_examples.specs.Ways.{ring, ring_nodes, ring_links, turned, turned_links, apart, apart_nodes}
use Rattle.ats_verdict_examples.specs.Ways.{apart_links, PortsDecide, WalksAreMet}

-- Walks by computation, and what the laws say of them.

ring_is : IsTopology ring
ring_is = topology_rules ring_nodes ring_links refl

apart_is : IsTopology apart
apart_is = topology_rules apart_nodes apart_links refl

least : IsLeastWalk ring.ports 0 1 (0 ∷ 2 ∷ 6 ∷ 10 ∷ [])
least = (shortest_least ring 0 1 ring_is (lit< tt) (lit< tt)).least (0 ∷ 2 ∷ 6 ∷ 10 ∷ []) refl

not_least : ¬ IsLeastWalk ring.ports 0 1 (0 ∷ 4 ∷ 8 ∷ 10 ∷ [])
not_least other =
    let e : ◌≡◌ {A = ℕ} 2 4 = ap (λ (walk : List ℕ). slice_index_or walk 1 0)
    (walk_is_one ring.ports 0 1 (0 ∷ 2 ∷ 6 ∷ 10 ∷ []) (0 ∷ 4 ∷ 8 ∷ 10 ∷ []) least other) in
    absurd (omega arith)

not_shortest : ¬ IsLeastWalk ring.ports 0 1 (0 ∷ 1 ∷ 0 ∷ 2 ∷ 6 ∷ 10 ∷ [])
not_shortest other =
    let more : 6 ≤ 4 = other.least (0 ∷ 2 ∷ 6 ∷ 10 ∷ []) least.walk_is in absurd (omega arith)

-- one more port of a walk
step : (ports : List Port) (p to : ℕ) (walk : List ℕ) → nat_lt p (length ports) ≡ true
    → IsWalk ports (port_at ports p).to to walk → IsWalk ports (port_at ports p).from to (p ∷ walk)
step ports p to walk within rest = (record { within = lt_of p (length ports) within; from = refl }, rest)

as_short : IsWalk ring.ports 0 1 (0 ∷ 4 ∷ 8 ∷ 10 ∷ [])
as_short =
    step ring.ports 0 1 (4 ∷ 8 ∷ 10 ∷ []) refl
    (step ring.ports 4 1 (8 ∷ 10 ∷ []) refl
    (step ring.ports 8 1 (10 ∷ []) refl (step ring.ports 10 1 [] refl refl)))

longer : IsWalk ring.ports 0 1 (0 ∷ 1 ∷ 0 ∷ 2 ∷ 6 ∷ 10 ∷ [])
longer =
    step ring.ports 0 1 (1 ∷ 0 ∷ 2 ∷ 6 ∷ 10 ∷ []) refl
    (step ring.ports 1 1 (0 ∷ 2 ∷ 6 ∷ 10 ∷ []) refl least.walk_is)

turned_is : IsTopology turned
turned_is = topology_rules ring_nodes turned_links refl

least_turned : IsLeastWalk turned.ports 0 1 (0 ∷ 2 ∷ 8 ∷ 10 ∷ [])
least_turned = (shortest_least turned 0 1 turned_is (lit< tt) (lit< tt)).least (0 ∷ 2 ∷ 8 ∷ 10 ∷ []) refl

as_short_turned : IsWalk turned.ports 0 1 (0 ∷ 4 ∷ 6 ∷ 10 ∷ [])
as_short_turned =
    step turned.ports 0 1 (4 ∷ 6 ∷ 10 ∷ []) refl
    (step turned.ports 4 1 (6 ∷ 10 ∷ []) refl
    (step turned.ports 6 1 (10 ∷ []) refl (step turned.ports 10 1 [] refl refl)))

not_least_turned : ¬ IsLeastWalk turned.ports 0 1 (0 ∷ 4 ∷ 6 ∷ 10 ∷ [])
not_least_turned other =
    let e : ◌≡◌ {A = ℕ} 2 4 = ap (λ (walk : List ℕ). slice_index_or walk 1 0)
    (walk_is_one turned.ports 0 1 (0 ∷ 2 ∷ 8 ∷ 10 ∷ []) (0 ∷ 4 ∷ 6 ∷ 10 ∷ []) least_turned other) in
    absurd (omega arith)

ports_decide : PortsDecide
ports_decide = record {
  rules = turned_is;
  found = refl;
  least = least_turned;
  as_short = as_short_turned;
  not_least = not_least_turned;
}

pub walks_are_met : WalksAreMet
walks_are_met = record {
  rules = ring_is;
  found = refl;
  least = least;
  as_short = as_short;
  not_least = not_least;
  longer = longer;
  not_shortest = not_shortest;
  rules_apart = apart_is;
  nothing = refl;
  no_walk = (shortest_least apart 0 1 apart_is (lit< tt) (lit< tt)).none refl;
  ports = ports_decide;
}
