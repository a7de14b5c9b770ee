use Rattle.std.proofs.Common.{◌≡◌, ◌≢◌, ℕ, ◌<◌, ◌≤◌, Bool, true, false, List, [], ◌∷◌, length, refl, sym, ap, subst}
use Rattle.std.proofs.Common.{◌∙◌, arith}
use Rattle.std.proofs.lemmas.Bool.{eq-eqb}
use Rattle.std.specs.List.{All, AllPairs}
use Rattle.ats_facts.proofs.Lists.{pairs_head, pairs_tail}
use Rattle.ats_topology.specs.Node.{is_station}
use Rattle.ats_topology.specs.Port.{port_at, no_port, leaves, HasBack}
use Rattle.ats_topology.specs.Topology.{DeclaredTopology, IsTopology, HasLawfulPorts, HasOnePort, node_at}
use Rattle.ats_topology.specs.Walks.{IsWalk}
use Rattle.ats_topology.specs.declared.port.Port.{Port}
use Rattle.ats_topology.proofs.Rules.{ports_are_lawful}
use Rattle.ats_network.specs.Bridges.{MeetAtBridge}
use Rattle.ats_network.specs.Senders.{AllNeighbours}
use Rattle.ats_network.specs.Laws.{PathsMeetAtBridges}
use Rattle.ats_network.specs.Path.{IsValidPath}
use Rattle.ats_network.proofs.CountLemmas.{one_passes}
use Rattle.ats_network.proofs.PathLemmas.{nodes_to}

-- where two ports of a walk follow each other and the second does not lead back, they meet at a bridge: a station has
-- one port alone, which leads back
meet : (topology : DeclaredTopology) (p q : ℕ) → IsTopology topology → p < length topology.ports
    → q < length topology.ports → (port_at topology.ports q).from ≡ (port_at topology.ports p).to
    → (port_at topology.ports p).from ≢ (port_at topology.ports q).to → MeetAtBridge topology p q
meet topology p q is in_p in_q next onward = record {
  bridge = record {
    within = there;
    bridge = by (is_station (node_at topology.nodes node).kind) refl;
  };
  next = next;
}
  where
    node : ℕ
    node = (port_at topology.ports p).to

    kept : HasLawfulPorts topology
    kept = ports_are_lawful topology is

    there : node < length topology.nodes
    there = (kept.each p no_port in_p).between.to

    back : HasBack topology.ports p
    back = kept.paired p in_p

    never : is_station (node_at topology.nodes node).kind ≡ true → ⊥
    never station =
        let alone : HasOnePort topology.ports node = kept.stations node there station in
        let same : q ≡ back.back =
        one_passes (leaves node) topology.ports q back.back no_port alone.leaves in_q back.within
        (eq-eqb (port_at topology.ports q).from node next)
        (eq-eqb (port_at topology.ports back.back).from node back.from) in
        onward (sym (ap (λ (r : ℕ). (port_at topology.ports r).to) same ∙ back.to))

    by : (b : Bool) → is_station (node_at topology.nodes node).kind ≡ b
        → is_station (node_at topology.nodes node).kind ≡ false
    by true e = absurd (never e)
    by false e = e

-- all neighbours on a walk that comes to no node twice meet at bridges
meet_along : (topology : DeclaredTopology) (a : ℕ) (path : List ℕ) (b : ℕ) → IsTopology topology
    → IsWalk topology.ports a b path → AllPairs (λ m n. m ≢ n) (a ∷ nodes_to topology.ports path)
    → AllNeighbours (MeetAtBridge topology) path
meet_along topology a [] b is walk apart = tt
meet_along topology a (p ∷ []) b is walk apart = tt
meet_along topology a (p ∷ q ∷ path) b is walk apart =
    let ports : List Port = topology.ports in
    let others : All (λ n. a ≢ n) (nodes_to ports (p ∷ q ∷ path)) =
    pairs_head (λ m n. m ≢ n) a (nodes_to ports (p ∷ q ∷ path)) apart in
    let further : a ≢ (port_at ports q).to = others 1 0 (omega arith) in (
      meet topology p q is walk.0.within walk.1.0.within walk.1.0.from (λ e. further (sym walk.0.from ∙ e)),
      meet_along topology (port_at ports p).to (q ∷ path) b is walk.1
          (pairs_tail (λ m n. m ≢ n) a (nodes_to ports (p ∷ q ∷ path)) apart),
    )

-- a valid path leads between nodes of the topology
pub talker_within : (topology : DeclaredTopology) (path : List ℕ) → IsTopology topology
    → (valid : IsValidPath topology path) → valid.talker < length topology.nodes
talker_within topology [] is valid = absurd (omega (arith, valid.some))
talker_within topology (p ∷ path) is valid =
    let kept : HasLawfulPorts topology = ports_are_lawful topology is in
    subst (λ (n : ℕ). n < length topology.nodes) valid.walk.0.from
    (kept.each p no_port valid.walk.0.within).between.from

end_within : (topology : DeclaredTopology) (a b : ℕ) (path : List ℕ) → IsTopology topology → 1 ≤ length path
    → IsWalk topology.ports a b path → b < length topology.nodes
end_within topology a b [] is some walk = absurd (omega (arith, some))
end_within topology a b (p ∷ []) is some walk =
    let kept : HasLawfulPorts topology = ports_are_lawful topology is in
    subst (λ (n : ℕ). n < length topology.nodes) walk.1 (kept.each p no_port walk.0.within).between.to
end_within topology a b (p ∷ q ∷ path) is some walk =
    end_within topology (port_at topology.ports p).to b (q ∷ path) is (omega arith) walk.1

pub listener_within : (topology : DeclaredTopology) (path : List ℕ) → IsTopology topology
    → (valid : IsValidPath topology path) → valid.listener < length topology.nodes
listener_within topology path is valid =
    end_within topology valid.talker valid.listener path is valid.some valid.walk

pub meet_at_bridges : PathsMeetAtBridges
meet_at_bridges topology [] is valid = tt
meet_at_bridges topology (p ∷ path) is valid =
    meet_along topology (port_at topology.ports p).from (p ∷ path) valid.listener is
    (subst (λ (n : ℕ). IsWalk topology.ports n valid.listener (p ∷ path)) (sym valid.walk.0.from) valid.walk)
    valid.apart
