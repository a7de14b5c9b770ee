-- Branches begin at bridges: two ports leave the node where one does, and a station has one.
use Rattle.std.proofs.Common.{◌≡◌, ◌≢◌, ℕ, suc, ◌+◌, ◌<◌, Bool, true, false, List, length, get_or, refl, sym, ap}
use Rattle.std.proofs.Common.{subst, ◌∙◌, arith}
use Rattle.std.specs.List.{AllPairs}
use Rattle.std.proofs.lemmas.Bool.{eq-eqb}
use Rattle.ats_facts.proofs.Lists.{pairs_tail}
use Rattle.ats_streams.specs.Branches.{BeginsEarlier, first_from, leg_at, legs_of, no_branch}
use Rattle.ats_streams.specs.declared.branch.Branch.{Branch}
use Rattle.ats_streams.proofs.BranchLemmas.{begins_at}
use Rattle.ats_streams.proofs.Places.{IsPlace, branch_some, is_place}
use Rattle.ats_topology.specs.Node.{is_station}
use Rattle.ats_topology.specs.Port.{leaves, no_port, port_at}
use Rattle.ats_topology.specs.Topology.{HasLawfulPorts, HasOnePort, node_at}
use Rattle.ats_topology.specs.Walks.{ArePorts}
use Rattle.ats_topology.specs.declared.port.Port.{Port}
use Rattle.ats_topology.proofs.Rules.{ports_are_lawful}
use Rattle.ats_network.specs.Path.{IsBranch, node_of_branch}
use Rattle.ats_network.proofs.CountLemmas.{one_passes}
use Rattle.ats_network.proofs.EndsApart.{one_place}
use Rattle.ats_network.proofs.PathLemmas.{nodes_to}
use Rattle.ats_network.proofs.TreeLemmas.{tree_ports}
use Rattle.ats_network.proofs.ValidRoutes.{first_rises, from_talker, nodes_apart, walk_first}
use Rattle.ats_listener_law.specs.Routes.{BranchesBeginAtBridges}

pub branches_begin_at_bridges : BranchesBeginAtBridges
branches_begin_at_bridges topology ports branches is are tree n below = record {
  within = (kept.each p no_port in_p).between.from;
  bridge = by (is_station (node_at topology.nodes node).kind) refl;
}
  where
    P : List Port
    P = topology.ports

    legs : List (List ℕ)
    legs = legs_of ports branches

    b : Branch
    b = get_or branches n no_branch

    begins : BeginsEarlier (legs_of ports branches) (1 + n) (get_or branches n no_branch)
    begins = begins_at legs 1 branches n are.begin below

    node : ℕ
    node = node_of_branch topology.ports (legs_of ports branches) (get_or branches n no_branch)

    -- the port of the hop, and the first one of the branch
    p : ℕ
    p = get_or (leg_at (legs_of ports branches) b.leg) b.hop 0

    q : ℕ
    q = get_or (leg_at (legs_of ports branches) (suc n)) 0 0

    own_some : 0 < length (leg_at (legs_of ports branches) (suc n))
    own_some = branch_some 0 ports branches n are.places below

    here : IsPlace 0 ports branches b.leg b.hop
    here = is_place 0 ports branches b.leg b.hop are.places (omega arith) (omega (arith, begins.earlier, below))
        begins.within

    there : IsPlace 0 ports branches (suc n) 0
    there = is_place 0 ports branches (suc n) 0 are.places (omega arith) (omega (arith, below)) own_some

    are_ports : ArePorts topology.ports ports
    are_ports = tree_ports topology ports branches are tree

    in_p : p < length topology.ports
    in_p = subst (λ (k : ℕ). k < length P) here.port (are_ports (first_from 0 branches b.leg + b.hop) 0 here.within)

    in_q : q < length topology.ports
    in_q = subst (λ (k : ℕ). k < length P) there.port (are_ports (first_from 0 branches (suc n) + 0) 0 there.within)

    from_q : (port_at topology.ports q).from ≡ node
    from_q =
        let branch : IsBranch topology legs b (leg_at legs (1 + n)) = tree.each n below in
        let next : 1 + n ≡ suc n = omega arith in
        subst (λ (k : ℕ). (port_at P (get_or (leg_at legs k) 0 0)).from ≡ node) next
        (walk_first P node branch.listener (leg_at legs (1 + n)) branch.walk
        (subst (λ (k : ℕ). 0 < length (leg_at legs k)) (sym next) own_some))

    apart : AllPairs (λ x y. x ≢ y) (nodes_to topology.ports ports)
    apart = pairs_tail (λ x y. x ≢ y) tree.trunk.talker (nodes_to P ports)
        (nodes_apart P tree.trunk.talker ports (from_talker topology ports branches tree tree.trunk.some) tree.apart)

    differ : p ≢ q
    differ same =
        let place : first_from 0 branches b.leg + b.hop ≡ first_from 0 branches (suc n) + 0 =
        one_place P ports (first_from 0 branches b.leg + b.hop) (first_from 0 branches (suc n) + 0) apart here.within
        there.within (ap (λ (k : ℕ). (port_at P k).to) (here.port ∙ same ∙ sym there.port)) in
        omega (
          arith,
          place,
          here.below (omega (arith, begins.earlier, below)),
          first_rises 0 branches (length ports) (suc b.leg) (suc n) are.places (omega (arith, begins.earlier))
              (omega (arith, below)),
        )

    kept : HasLawfulPorts topology
    kept = ports_are_lawful topology is

    never : is_station (node_at topology.nodes node).kind ≡ true → ⊥
    never station =
        let alone : HasOnePort P node = kept.stations node (kept.each p no_port in_p).between.from station in
        differ (one_passes (leaves node) P p q no_port alone.leaves in_p in_q
        (eq-eqb (port_at P p).from node refl) (eq-eqb (port_at P q).from node from_q))

    by : (t : Bool) → is_station (node_at topology.nodes node).kind ≡ t
        → is_station (node_at topology.nodes node).kind ≡ false
    by true e = absurd (never e)
    by false e = e
