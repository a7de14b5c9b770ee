-- How many first ports of a route lead to nodes of a tree.
use Rattle.std.proofs.Common.{◌≡◌, ℕ, zero, suc, ◌<◌, ◌≤◌, Bool, true, false, List, [], ◌∷◌, ◌++◌, length, drop}
use Rattle.std.proofs.Common.{get_or, refl, ap, subst, ◌∙◌, arith}
use Rattle.std.specs.Prelude.{option_and_then}
use Rattle.std.specs.List.{All}
use Rattle.std.proofs.lemmas.List.Elements.{All-cons, All-head, All-nil, All-tail}
use Rattle.ats_topology.specs.Port.{port_at}
use Rattle.ats_topology.specs.Topology.{DeclaredTopology}
use Rattle.ats_topology.specs.declared.port.Port.{Port}
use Rattle.ats_network.specs.PathSteps.{comes_to}
use Rattle.ats_route_tree.specs.Legs.{DeclaredLegs}
use Rattle.ats_route_tree.specs.Steps.{branch_behind, grown_where, known_ports, node_after, one_more, place_to}
use Rattle.ats_route_tree.specs.Steps.{with_known}

-- a port leads to a node to which one of these ports leads
abbrev pub is_in : List Port → List ℕ → ℕ → Bool
is_in ports numbers p = comes_to ports (port_at ports p).to numbers

-- so many first ports of a route: none behind them leads to a node of these ports, and the last of them does
pub record AreKnown (ports : List Port) (numbers route : List ℕ) (count : ℕ) : Type 0 where
  pub within : count ≤ length route
  pub out : All (λ p. is_in ports numbers p ≡ false) (drop count route)
  pub last : (i : ℕ) → suc i ≡ count → is_in ports numbers (get_or route i 0) ≡ true

pub are_known : (ports : List Port) (numbers route : List ℕ)
    → AreKnown ports numbers route (known_ports ports numbers route)
are_known ports numbers [] = record {
  within = omega arith;
  out = All-nil (λ p. is_in ports numbers p ≡ false);
  last = λ i h. absurd (omega (arith, h));
}
are_known ports numbers (p ∷ route) =
    by (known_ports ports numbers route) (is_in ports numbers p) refl (are_known ports numbers route)
  where
    by : (n : ℕ) (known : Bool) → is_in ports numbers p ≡ known → AreKnown ports numbers route n
        → AreKnown ports numbers (p ∷ route) (one_more n known)
    by zero true e k = record {
      within = omega arith;
      out = k.out;
      last = λ i h. subst (λ (j : ℕ). is_in ports numbers (get_or (p ∷ route) j 0) ≡ true) (zero_is i h) e;
    }
      where
        zero_is : (i : ℕ) → suc i ≡ 1 → 0 ≡ i
        zero_is i h = omega (arith, h)
    by zero false e k = record {
      within = omega arith;
      out = All-cons (λ x. is_in ports numbers x ≡ false) p route e k.out;
      last = λ i h. absurd (omega (arith, h));
    }
    by (suc n) known e k = record {
      within = omega (arith, k.within);
      out = k.out;
      last = earlier;
    }
      where
        earlier : (i : ℕ) → suc i ≡ suc (suc n) → is_in ports numbers (get_or (p ∷ route) i 0) ≡ true
        earlier zero h = absurd (omega (arith, h))
        earlier (suc i) h = k.last i (omega (arith, h))

-- where some are known, the route goes off behind the last of them
pub known_more : (topology : DeclaredTopology) (legs : DeclaredLegs) (route : List ℕ) (count : ℕ) → 0 < count
    → with_known topology legs route count
    ≡ option_and_then (λ place. grown_where legs route count (branch_behind legs place))
    (place_to topology.ports (node_after topology.ports route count) legs.ports)
known_more topology legs route zero some = absurd (omega (arith, some))
known_more topology legs route (suc n) some = refl

pub none_known : (ports : List Port) (numbers own : List ℕ) → All (λ p. is_in ports numbers p ≡ false) own
    → known_ports ports numbers own ≡ 0
none_known ports numbers [] out = refl
none_known ports numbers (p ∷ own) out =
    ap (λ (n : ℕ). one_more n (is_in ports numbers p))
    (none_known ports numbers own (All-tail (λ x. is_in ports numbers x ≡ false) p own out))
    ∙ ap (one_more 0) (All-head (λ x. is_in ports numbers x ≡ false) p own out)

-- where the last of some ports leads to such a node, and none behind them does, these are known
pub known_are : (ports : List Port) (numbers lead own : List ℕ) → All (λ p. is_in ports numbers p ≡ false) own
    → 1 ≤ length lead → ((i : ℕ) → suc i ≡ length lead → is_in ports numbers (get_or lead i 0) ≡ true)
    → known_ports ports numbers (lead ++ own) ≡ length lead
known_are ports numbers [] own out some last = absurd (omega (arith, some))
known_are ports numbers (p ∷ []) own out some last =
    ap (λ (n : ℕ). one_more n (is_in ports numbers p)) (none_known ports numbers own out)
    ∙ ap (one_more 0) (last 0 refl)
known_are ports numbers (p ∷ q ∷ lead) own out some last =
    ap (λ (n : ℕ). one_more n (is_in ports numbers p))
    (known_are ports numbers (q ∷ lead) own out (omega arith) (λ i h. last (suc i) (ap suc h)))
