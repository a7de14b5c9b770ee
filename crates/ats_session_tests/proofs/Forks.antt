-- A stream that goes from a station to two others.
use Rattle.std.proofs.Common.{◌≡◌, ◌≢◌, ℕ, zero, suc, ◌+◌, ◌<◌, List, [], ◌∷◌, get_or, sym, ◌∙◌, subst, arith}
use Rattle.std.proofs.Common.{lit<, refl}
use Rattle.std.specs.List.{All, AllPairs}
use Rattle.std.proofs.lemmas.List.Elements.{All-cons, All-nil}
use Rattle.std.proofs.lemmas.List.Kept.{AllPairs-cons}
use Rattle.ats_facts.proofs.Lists.{pairs_head, pairs_tail}
use Rattle.ats_topology.specs.Port.{port_at}
use Rattle.ats_topology.specs.Topology.{DeclaredTopology}
use Rattle.ats_streams.specs.Branches.{AreBranches, leg_at, legs_of, no_branch}
use Rattle.ats_streams.specs.declared.branch.Branch.{Branch}
use Rattle.ats_network.specs.Path.{IsBranch, IsTree, IsValidPath, nodes_along}
use Rattle.ats_session_tests.specs.Forks.{fork, fork_ports}

are_branches : AreBranches fork_ports fork
are_branches = record {
  places = (lit< tt, lit< tt, tt);
  begin = (record { earlier = lit< tt; at_talker = λ h. refl; within = lit< tt }, tt);
  few = omega arith;
}

pub fork_branches : (ports : List ℕ) (branches : List Branch) → ports ≡ fork_ports → branches ≡ fork
    → AreBranches ports branches
fork_branches ports branches e f =
    subst (λ (ps : List ℕ). AreBranches ps branches) (sym e) (subst (AreBranches fork_ports) (sym f) are_branches)

-- where the paths to both stations are valid, and the two last ports lead to different nodes, the legs make a tree
module _
    (topology : DeclaredTopology)
    (one : IsValidPath topology (0 ∷ 2 ∷ []))
    (other : IsValidPath topology (0 ∷ 4 ∷ []))
    (part : (port_at topology.ports 2).to ≢ (port_at topology.ports 4).to) where
  abbrev Apart : ℕ → ℕ → Type 0
  Apart a b = a ≢ b

  each : (n : ℕ) → n < 1
      → IsBranch topology (legs_of fork_ports fork) (get_or fork n no_branch) (leg_at (legs_of fork_ports fork) (1 + n))
  each zero within = record {
    listener = other.listener;
    walk = (
      record { within = other.walk.1.0.within; from = other.walk.1.0.from ∙ sym one.walk.1.0.from },
      other.walk.1.1,
    );
  }
  each (suc n) within = absurd (omega arith)

  apart : AllPairs Apart (nodes_along topology.ports fork_ports)
  apart =
      let start : ℕ = (port_at topology.ports 0).from in
      let bridge : ℕ = (port_at topology.ports 0).to in
      let second : ℕ = (port_at topology.ports 2).to in
      let third : ℕ = (port_at topology.ports 4).to in
      let from_start : All (Apart start) (bridge ∷ second ∷ []) =
      pairs_head Apart start (bridge ∷ second ∷ []) one.apart in
      let to_third : All (Apart start) (bridge ∷ third ∷ []) =
      pairs_head Apart start (bridge ∷ third ∷ []) other.apart in
      let at_bridge : All (Apart bridge) (second ∷ []) = pairs_head Apart bridge (second ∷ [])
      (pairs_tail Apart start (bridge ∷ second ∷ []) one.apart) in
      let on_third : All (Apart bridge) (third ∷ []) = pairs_head Apart bridge (third ∷ [])
      (pairs_tail Apart start (bridge ∷ third ∷ []) other.apart) in
      AllPairs-cons Apart start (bridge ∷ second ∷ third ∷ [])
      (All-cons (Apart start) bridge (second ∷ third ∷ []) (from_start 0 0 (lit< tt))
      (All-cons (Apart start) second (third ∷ []) (from_start 1 0 (lit< tt))
      (All-cons (Apart start) third [] (to_third 1 0 (lit< tt)) (All-nil (Apart start)))))
      (AllPairs-cons Apart bridge (second ∷ third ∷ [])
      (All-cons (Apart bridge) second (third ∷ []) (at_bridge 0 0 (lit< tt))
      (All-cons (Apart bridge) third [] (on_third 0 0 (lit< tt)) (All-nil (Apart bridge))))
      (AllPairs-cons Apart second (third ∷ []) (All-cons (Apart second) third [] part (All-nil (Apart second)))
      (AllPairs-cons Apart third [] (All-nil (Apart third)) none)))
    where
      none : AllPairs Apart []
      none i j d before within = absurd (omega arith)

  is_tree : IsTree topology fork_ports fork
  is_tree = record { trunk = one; each = each; apart = apart }

pub fork_tree : (topology : DeclaredTopology) (ports : List ℕ) (branches : List Branch) → ports ≡ fork_ports
    → branches ≡ fork → IsValidPath topology (0 ∷ 2 ∷ []) → IsValidPath topology (0 ∷ 4 ∷ [])
    → (port_at topology.ports 2).to ≢ (port_at topology.ports 4).to → IsTree topology ports branches
fork_tree topology ports branches e f one other part =
    subst (λ (ps : List ℕ). IsTree topology ps branches) (sym e)
    (subst (IsTree topology fork_ports) (sym f) (is_tree topology one other part))

-- where two routes are valid, all those of a list of just these two are
pub both_valid : (topology given : DeclaredTopology) (routes : List (List ℕ)) (one other : List ℕ) → given ≡ topology
    → routes ≡ one ∷ other ∷ [] → IsValidPath topology one → IsValidPath topology other
    → All (IsValidPath given) routes
both_valid topology given routes one other e f first second =
    subst (λ (t : DeclaredTopology). All (IsValidPath t) routes) (sym e)
    (subst (All (IsValidPath topology)) (sym f)
    (All-cons (IsValidPath topology) one (other ∷ []) first
    (All-cons (IsValidPath topology) other [] second (All-nil (IsValidPath topology)))))
