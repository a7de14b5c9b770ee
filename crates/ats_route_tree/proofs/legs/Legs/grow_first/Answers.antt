use Rattle.std.proofs.Common.{◌≡◌, ℕ, true, List, [], ◌∷◌, ◌++◌, rules, sym, ap, ◌∙◌, arith}
use Rattle.ats_streams.specs.declared.branch.Branch.{Branch}
use Rattle.ats_topology.specs.declared.port.Port.{Port}
use Rattle.ats_route_tree.specs.Legs.{DeclaredLegs}
use Rattle.ats_route_tree.specs.Steps.{branch_first, goes_off_first, grown}
use Rattle.ats_route_tree.proofs.Counts.{first_is}
use Rattle.ats_route_tree.proofs.legs.Legs.grow_first.Goals as goal

abbrev legs_by : List ℕ → List Branch → DeclaredLegs
legs_by ports branches = record { ports = ports; branches = branches }

pub returns : goal.returns
returns c =
    let own : List ℕ = c.args.self.now.ports.items in
    let mine : List Branch = c.args.self.now.branches.items in
    let route : List ℕ = c.args.route.now in
    let b : Branch = c.branch_first-branch.result in
    let P : List Port = c.args.ports.now in
    let passed : c.goes_off_first.result ≡ true = search rules in
    let passes : goes_off_first P (legs_by own mine) route ≡ true =
    ap (λ (ns : List ℕ). goes_off_first P (legs_by ns mine) route) (sym c.deref.ensures.value)
    ∙ ap (λ (bs : List Branch). goes_off_first P (legs_by c.deref.result.now bs) route) (sym c.deref-2.ensures.value)
    ∙ sym c.goes_off_first.ensures ∙ passed in
    let branch : branch_first (legs_by own mine) ≡ b =
    sym (c.branch_first-branch.ensures own mine (omega (arith, c.len.ensures))) in
    let next : grown (legs_by own mine) route 0 (branch_first (legs_by own mine))
    ≡ legs_by c.extend_from_slice.new.self.items c.push.new.self.items =
    ap (λ (x : Branch). grown (legs_by own mine) route 0 x) branch
    ∙ ap (λ (ns : List ℕ). legs_by ns (mine ++ b ∷ [])) (sym c.in_ok-extend_from_slice.ensures.items)
    ∙ ap (λ (bs : List Branch). legs_by c.extend_from_slice.new.self.items bs) (sym c.in_ok-push.ensures.items) in
    first_is P (legs_by own mine) route (legs_by c.extend_from_slice.new.self.items c.push.new.self.items) passes next
