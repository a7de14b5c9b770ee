use Rattle.std.proofs.Common.{◌≡◌, ◌-◌, ◌≤◌, ℕ, true, List, [], ◌∷◌, ◌++◌, length, take, drop, Some, refl, sym, ap}
use Rattle.std.proofs.Common.{◌∙◌}
use Rattle.std.proofs.Common.{arith, rules, length-drop}
use Rattle.std.proofs.lemmas.List.{take_all}
use Rattle.ats_topology.specs.Walks.{ArePorts}
use Rattle.ats_topology.specs.declared.port.Port.{Port}
use Rattle.ats_streams.specs.declared.branch.Branch.{Branch}
use Rattle.ats_streams.proofs.BranchLemmas.{trunk_within}
use Rattle.ats_network.proofs.TreeLemmas.{tree_ports}
use Rattle.ats_route_tree.specs.Legs.{DeclaredLegs}
use Rattle.ats_route_tree.specs.Steps.{branch_behind, goes_off, grown, known_ports, node_after, place_to}
use Rattle.ats_route_tree.proofs.Counts.{grown_is, legs_few, ports_are, tree_few, valid_ports}
use Rattle.ats_route_tree.proofs.legs.Legs.grow.Goals as goal

pub known_ports-count-requires-clause-numbers : goal.known_ports-count-requires-clause-numbers
known_ports-count-requires-clause-numbers c =
    ports_are c.args.topology.now.ports c.ports-ports.result.now c.args.self.now.ports.items c.deref.result.now
    c.deref.ensures.value c.ports-ports.ensures.value (tree_ports c.args.topology.now c.args.self.now.ports.items
    c.args.self.now.branches.items c.requires.have.are c.requires.have.tree)

pub known_ports-count-requires-clause-route : goal.known_ports-count-requires-clause-route
known_ports-count-requires-clause-route c =
    ports_are c.args.topology.now.ports c.ports-ports.result.now c.args.route.now c.args.route.now refl
    c.ports-ports.ensures.value (valid_ports c.args.topology.now c.args.route.now c.requires.valid)

pub grow_first-requires-clause-numbers : goal.grow_first-requires-clause-numbers
grow_first-requires-clause-numbers c =
    ports_are c.args.topology.now.ports c.ports-ports.result.now c.args.self.now.ports.items
    c.args.self.now.ports.items refl c.ports-ports.ensures.value (tree_ports c.args.topology.now
    c.args.self.now.ports.items c.args.self.now.branches.items c.requires.have.are c.requires.have.tree)

pub grow_first-requires-clause-route : goal.grow_first-requires-clause-route
grow_first-requires-clause-route c =
    ports_are c.args.topology.now.ports c.ports-ports.result.now c.args.route.now c.args.route.now refl
    c.ports-ports.ensures.value (valid_ports c.args.topology.now c.args.route.now c.requires.valid)

pub grow_first-requires-clause-some : goal.grow_first-requires-clause-some
grow_first-requires-clause-some c = (
  omega (
    arith,
    c.requires.have.tree.trunk.some,
    trunk_within c.args.self.now.ports.items c.args.self.now.branches.items,
  ),
  omega (arith, c.requires.valid.some),
)

pub grow_first-requires-clause-few : goal.grow_first-requires-clause-few
grow_first-requires-clause-few c =
    let few : length c.args.self.now.ports.items ≤ 1024 =
    tree_few c.args.topology.now c.args.self.now.ports.items c.args.self.now.branches.items
    c.ports-ports.ensures.rules c.requires.have.are c.requires.have.tree in
    omega (arith, few)

pub bounds-ports-route : goal.bounds-ports-route
bounds-ports-route c =
    let are : ArePorts c.ports-ports.result.now c.args.route.now =
    ports_are c.args.topology.now.ports c.ports-ports.result.now c.args.route.now c.args.route.now refl
    c.ports-ports.ensures.value (valid_ports c.args.topology.now c.args.route.now c.requires.valid) in
    are (c.known_ports-count.result - 1) 0 (omega (arith, c.known_ports-count.ensures.within, c.if-count-eq0.false))

pub place_to-requires : goal.place_to-requires
place_to-requires c =
    ports_are c.args.topology.now.ports c.ports-ports.result.now c.args.self.now.ports.items c.deref-2.result.now
    c.deref-2.ensures.value c.ports-ports.ensures.value (tree_ports c.args.topology.now
    c.args.self.now.ports.items c.args.self.now.branches.items c.requires.have.are c.requires.have.tree)

pub branch_behind-branch-requires-clause-places : goal.branch_behind-branch-requires-clause-places
branch_behind-branch-requires-clause-places c =
    let few : length c.args.self.now.ports.items ≤ 1024 =
    tree_few c.args.topology.now c.args.self.now.ports.items c.args.self.now.branches.items
    c.ports-ports.ensures.rules c.requires.have.are c.requires.have.tree in
    let same : length c.deref-2.result.now ≡ length c.args.self.now.ports.items =
    ap (λ (l : List ℕ). length l) c.deref-2.ensures.value in
    (omega (arith, same, c.in-Some.ensures.within, c.len.ensures), omega (arith, few, c.len.ensures))

pub goes_off-requires-clause-leg : goal.goes_off-requires-clause-leg
goes_off-requires-clause-leg c =
    let is : c.branch_behind-branch.result ≡ branch_behind
    (record { ports = c.args.self.now.ports.items; branches = c.deref-3.result.now }) c.in-Some.place =
    c.branch_behind-branch.ensures c.args.self.now.ports.items (omega (arith, c.len.ensures)) in
    omega (
      arith,
      ap (λ (b : Branch). b.leg) is,
      legs_few c.deref-3.result.now c.in-Some.place,
      ap (λ (bs : List Branch). length bs) c.deref-3.ensures.value,
      ap (λ (bs : List Branch). length bs) c.deref-5.ensures.value,
    )

abbrev legs_by : List ℕ → List Branch → DeclaredLegs
legs_by ports branches = record { ports = ports; branches = branches }

pub returns : goal.returns
returns c =
    let own : List ℕ = c.args.self.now.ports.items in
    let mine : List Branch = c.args.self.now.branches.items in
    let route : List ℕ = c.args.route.now in
    let count : ℕ = c.known_ports-count.result in
    let b : Branch = c.branch_behind-branch.result in
    let P : List Port = c.args.topology.now.ports in
    let known : known_ports P own route ≡ count =
    sym (c.known_ports-count.ensures.value
    ∙ ap (λ (ps : List Port). known_ports ps c.deref.result.now route) c.ports-ports.ensures.value
    ∙ ap (λ (ns : List ℕ). known_ports P ns route) c.deref.ensures.value) in
    let there : place_to P (node_after P route count) own ≡ Some c.in-Some.place =
    ap (λ (ps : List Port). place_to ps (node_after ps route count) own) (sym c.ports-ports.ensures.value)
    ∙ ap (λ (ns : List ℕ). place_to c.ports-ports.result.now (node_after c.ports-ports.result.now route count) ns)
    (sym c.deref-2.ensures.value) ∙ sym c.place_to.ensures.value ∙ c.in-Some.is in
    let branch : branch_behind (legs_by own mine) c.in-Some.place ≡ b =
    ap (λ (bs : List Branch). branch_behind (legs_by own bs) c.in-Some.place) (sym c.deref-3.ensures.value)
    ∙ sym (c.branch_behind-branch.ensures own (omega (arith, c.len.ensures))) in
    let passed : c.goes_off.result ≡ true = search rules in
    let passes : goes_off (legs_by own mine) route count b ≡ true =
    ap (λ (ns : List ℕ). goes_off (legs_by ns mine) route count b) (sym c.deref-4.ensures.value)
    ∙ ap (λ (bs : List Branch). goes_off (legs_by c.deref-4.result.now bs) route count b) (sym c.deref-5.ensures.value)
    ∙ sym c.goes_off.ensures ∙ passed in
    let rest : take (length route - count) (drop count route) ≡ drop count route =
    take_all (length route - count) (drop count route) (omega (arith, length-drop count route)) in
    let next : grown (legs_by own mine) route count b
    ≡ legs_by c.extend_from_slice.new.self.items c.push.new.self.items =
    ap (λ (l : List ℕ). legs_by (own ++ l) (mine ++ b ∷ [])) (sym rest)
    ∙ ap (λ (ns : List ℕ). legs_by ns (mine ++ b ∷ [])) (sym c.in_ok-extend_from_slice.ensures.items)
    ∙ ap (λ (bs : List Branch). legs_by c.extend_from_slice.new.self.items bs) (sym c.in_ok-push.ensures.items) in
    record {
      value = sym (grown_is c.args.topology.now (legs_by own mine) route count c.in-Some.place b
          (legs_by c.extend_from_slice.new.self.items c.push.new.self.items)
          (omega (arith, c.if-count-eq0.false)) known there branch passes next);
    }
