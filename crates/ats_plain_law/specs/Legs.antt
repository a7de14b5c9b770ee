use Rattle.std.specs.Prelude.{◌≡◌, ◌↔◌, ℕ, ◌+◌, ◌<◌, ◌≤◌, ◌≢◌, List, [], ◌∷◌, ◌++◌, length, map, take, drop, AllPairs}
use Rattle.std.specs.Prelude.{slice_index_or}
use Rattle.std.specs.List.{slice_range}
use Rattle.ats_topology.specs.Port.{port_at}
use Rattle.ats_topology.specs.Topology.{DeclaredTopology}
use Rattle.ats_topology.specs.Walks.{IsWalk}
use Rattle.ats_topology.specs.declared.port.Port.{Port}
use Rattle.ats_streams.specs.Branches.{AreBranches, Ascend, BeginEarlier, BeginsEarlier, joined, lead_to, leads_from}
use Rattle.ats_streams.specs.Branches.{leads_of, leg_at, legs_from, legs_of, no_branch, routes_of}
use Rattle.ats_streams.specs.declared.branch.Branch.{Branch}
use Rattle.ats_network.specs.Path.{IsBranch, IsTree, IsValidPath, node_of_branch, nodes_along}

-- the ports of a stream, cut into its legs: each goes up to where the next begins, and the last to the end. In front of
-- a branch stands what is in front of its leg, and of this leg what is in front of its hop; a route is what stands in
-- front of a leg, and the leg
pub record LegsAreCut : Type 0 where
  pub all : (ports : List ℕ) (branches : List Branch) → legs_of ports branches ≡ legs_from 0 ports branches
  pub last : (at : ℕ) (ports : List ℕ) → legs_from at ports [] ≡ drop at ports ∷ []
  pub next : (at : ℕ) (ports : List ℕ) (b : Branch) (branches : List Branch) → legs_from at ports (b ∷ branches)
      ≡ slice_range ports at b.first ∷ legs_from b.first ports branches
  pub leg : (legs : List (List ℕ)) (n : ℕ) → leg_at legs n ≡ slice_index_or legs n []
  pub lead : (legs leads : List (List ℕ)) (b : Branch) → lead_to legs leads b
      ≡ slice_index_or leads b.leg [] ++ take b.hop (slice_index_or legs b.leg [])
  pub leads : (legs leads : List (List ℕ)) (b : Branch) (branches : List Branch) → leads_from legs leads (b ∷ branches)
      ≡ leads_from legs (leads ++ lead_to legs leads b ∷ []) branches
  pub no_more : (legs leads : List (List ℕ)) → leads_from legs leads [] ≡ leads
  pub in_front : (ports : List ℕ) (branches : List Branch) → leads_of ports branches
      ≡ leads_from (legs_of ports branches) ([] ∷ []) branches
  pub routes : (ports : List ℕ) (branches : List Branch) → routes_of ports branches
      ≡ joined (leads_of ports branches) (legs_of ports branches)
  pub route : (lead leg : List ℕ) (leads legs : List (List ℕ)) → joined (lead ∷ leads) (leg ∷ legs)
      ≡ (lead ++ leg) ∷ joined leads legs

-- branches begin at places that ascend, each at a hop of an earlier leg that is the first hop of none but the trunk,
-- and there are at most 65535 of them
pub record BranchesArePlain : Type 0 where
  pub begins : (legs : List (List ℕ)) (own : ℕ) (b : Branch) → BeginsEarlier legs own b
      ↔ ((b.leg < own) × (b.hop ≡ 0 → b.leg ≡ 0) × (b.hop < length (leg_at legs b.leg)))
  pub begin : (legs : List (List ℕ)) (own : ℕ) (b : Branch) (branches : List Branch)
      → BeginEarlier legs own (b ∷ branches) ↔ (BeginsEarlier legs own b × BeginEarlier legs (own + 1) branches)
  pub ascend : (at end : ℕ) (b : Branch) (branches : List Branch) → Ascend at (b ∷ branches) end
      ↔ ((at < b.first) × (b.first < end) × Ascend b.first branches end)
  pub are : (ports : List ℕ) (branches : List Branch) → AreBranches ports branches
      ↔ (Ascend 0 branches (length ports) × BeginEarlier (legs_of ports branches) 1 branches
      × (length branches ≤ 65535))

-- a path is a walk of one port at least that comes to no node twice, and legs make a tree where the trunk is one, each
-- branch a walk from where it begins, and no node comes twice among those of the trunk and those behind them all
pub record TreesArePlain : Type 0 where
  pub none : (ports : List Port) → nodes_along ports [] ≡ []
  pub nodes : (ports : List Port) (p : ℕ) (path : List ℕ) → nodes_along ports (p ∷ path)
      ≡ (port_at ports p).from ∷ map (λ q. (port_at ports q).to) (p ∷ path)
  pub path : (t : DeclaredTopology) (path : List ℕ) → IsValidPath t path
      ↔ ((talker : ℕ) × (listener : ℕ) × (1 ≤ length path) × IsWalk t.ports talker listener path
      × AllPairs (λ a b. a ≢ b) (nodes_along t.ports path))
  pub from : (ports : List Port) (legs : List (List ℕ)) (b : Branch) → node_of_branch ports legs b
      ≡ (port_at ports (slice_index_or (slice_index_or legs b.leg []) b.hop 0)).from
  pub branch : (t : DeclaredTopology) (legs : List (List ℕ)) (b : Branch) (path : List ℕ) → IsBranch t legs b path
      ↔ ((listener : ℕ) × IsWalk t.ports (node_of_branch t.ports legs b) listener path)
  pub tree : (t : DeclaredTopology) (ports : List ℕ) (branches : List Branch) → IsTree t ports branches
      ↔ (IsValidPath t (leg_at (legs_of ports branches) 0)
      × ((n : ℕ) → n < length branches → IsBranch t (legs_of ports branches) (slice_index_or branches n no_branch)
      (leg_at (legs_of ports branches) (1 + n)))
      × AllPairs (λ a b. a ≢ b) (nodes_along t.ports ports))

pub record LegsArePlain : Type 0 where
  pub legs : LegsAreCut
  pub branches : BranchesArePlain
  pub trees : TreesArePlain
