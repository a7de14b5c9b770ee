use Rattle.std.proofs.Common.{◌≡◌, ℕ, zero, suc, ◌+◌, ◌<◌, ◌≤◌, List, [], ◌∷◌, length, drop, get_or}
use Rattle.std.proofs.Common.{refl, sym, subst, arith}
use Rattle.std.specs.List.{All, slice_range}
use Rattle.std.proofs.lemmas.List.Elements.{All-append}
use Rattle.std.proofs.lemmas.List.Folds.{drop_split}
use Rattle.ats_streams.specs.Branches.{Ascend, AreBranches, leg_at, legs_from, legs_of, no_branch}
use Rattle.ats_streams.specs.declared.branch.Branch.{Branch}
use Rattle.ats_topology.specs.Topology.{DeclaredTopology}
use Rattle.ats_topology.specs.Walks.{ArePorts}
use Rattle.ats_network.specs.Laws.{OneListenerIsAPath}
use Rattle.ats_network.specs.Path.{IsBranch, IsTree, IsValidPath, node_of_branch}
use Rattle.ats_network.proofs.PathLemmas.{walk_ports}

-- a valid path is a tree without branches
pub tree_of_path : (topology : DeclaredTopology) (path : List ℕ) → IsValidPath topology path → IsTree topology path []
tree_of_path topology path valid = record {
  trunk = valid;
  each = λ n within. absurd (omega arith);
  apart = valid.apart;
}

pub alone_tree : (topology : DeclaredTopology) (ports : List ℕ) (branches : List Branch) → branches ≡ []
    → IsValidPath topology ports → IsTree topology ports branches
alone_tree topology ports branches alone valid =
    subst (IsTree topology ports) (sym alone) (tree_of_path topology ports valid)

-- and a tree without branches is a valid path
pub path_of_tree : (topology : DeclaredTopology) (ports : List ℕ) (branches : List Branch) → branches ≡ []
    → IsTree topology ports branches → IsValidPath topology ports
path_of_tree topology ports branches alone tree =
    let one : IsTree topology ports [] = subst (IsTree topology ports) alone tree in
    one.trunk

-- what holds of each port of each leg holds of each port from the first leg on
along_legs : (P : ℕ → Type 0) (at : ℕ) (ports : List ℕ) (branches : List Branch) → Ascend at branches (length ports)
    → ((n : ℕ) → n ≤ length branches → All P (leg_at (legs_from at ports branches) n)) → All P (drop at ports)
along_legs P at ports [] ascend each = each 0 (omega arith)
along_legs P at ports (b ∷ branches) ascend each =
    subst (All P) (sym (drop_split ports at b.first (omega (arith, ascend.0))))
    (All-append P (slice_range ports at b.first) (drop b.first ports) (each 0 (omega arith))
    (along_legs P b.first ports branches ascend.2 (λ n within. each (suc n) (omega arith))))

-- the ports of a tree are ports of the topology
pub tree_ports : (topology : DeclaredTopology) (ports : List ℕ) (branches : List Branch) → AreBranches ports branches
    → IsTree topology ports branches → ArePorts topology.ports ports
tree_ports topology ports branches are tree =
    along_legs (λ p. p < length topology.ports) 0 ports branches are.places each
  where
    each : (n : ℕ) → n ≤ length branches → ArePorts topology.ports (leg_at (legs_of ports branches) n)
    each zero within =
        let trunk : IsValidPath topology (leg_at (legs_of ports branches) 0) = tree.trunk in
        walk_ports topology.ports trunk.talker (leg_at (legs_of ports branches) 0) trunk.listener trunk.walk
    each (suc n) within =
        let leg : IsBranch topology (legs_of ports branches) (get_or branches n no_branch)
        (leg_at (legs_of ports branches) (1 + n)) = tree.each n (omega arith) in
        subst (λ (k : ℕ). ArePorts topology.ports (leg_at (legs_of ports branches) k)) (omega arith)
        (walk_ports topology.ports (node_of_branch topology.ports (legs_of ports branches) (get_or branches n
        no_branch))
        (leg_at (legs_of ports branches) (1 + n)) leg.listener leg.walk)

pub one_listener_is_a_path : OneListenerIsAPath
one_listener_is_a_path topology path = ((λ tree. tree.trunk, tree_of_path topology path), refl)
