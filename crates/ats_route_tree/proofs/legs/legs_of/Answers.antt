use Rattle.std.proofs.Common.{◌≡◌, ◌+◌, ℕ, List, Some, None, sym, ap, subst, ◌∙◌, rules}
use Rattle.ats_network.specs.Path.{IsValidPath}
use Rattle.ats_route_tree.specs.Legs.{HaveRoutes}
use Rattle.ats_route_tree.specs.LegsView.{legs_view}
use Rattle.ats_route_tree.specs.Steps.{with_route}
use Rattle.ats_route_tree.proofs.Walked.{routes_taken, valid_behind, walked_next, walked_none}
use Rattle.ats_route_tree.proofs.legs.legs_of.Goals as goal

pub grow-requires-clause-have : goal.grow-requires-clause-have
grow-requires-clause-have c =
    subst (λ (rs : List (List ℕ)). HaveRoutes c.args.topology.now rs (legs_view c.loop-place.legs))
    (sym (routes_taken (c.loop-place.place + 1) c.args.routes.now)) c.loop-place.invariant.have

pub grow-requires-clause-valid : goal.grow-requires-clause-valid
grow-requires-clause-valid c =
    subst (IsValidPath c.args.topology.now) (sym c.deref-in-loop-place.ensures.value)
    (valid_behind c.args.topology.now c.args.routes.now c.in-Some.first.now c.in-Some.rest.now c.loop-place.place
    c.index-rest-place.result c.in-Some.ensures.cases.0 c.requires.valid c.loop-place-test.true c.index-rest-place.is)

pub returns-then-not-branch-clause-value : goal.returns-then-not-branch-clause-value
returns-then-not-branch-clause-value c =
    let none : None ≡ with_route c.args.topology.now (legs_view c.loop-place.legs) c.deref-in-loop-place.result.now =
    search rules in
    walked_none c.args.topology.now c.args.routes.now c.in-Some.rest.now c.loop-place.place
    (legs_view c.loop-place.legs) c.index-rest-place.result c.loop-place-test.true c.index-rest-place.is
    c.loop-place.invariant
    (none ∙ ap (λ (r : List ℕ). with_route c.args.topology.now (legs_view c.loop-place.legs) r)
    c.deref-in-loop-place.ensures.value)

pub loop-place-preserved : goal.loop-place-preserved
loop-place-preserved c =
    let some : Some (legs_view c.grow.new.self)
    ≡ with_route c.args.topology.now (legs_view c.loop-place.legs) c.deref-in-loop-place.result.now =
    search rules in
    walked_next c.args.topology.now c.args.routes.now c.in-Some.first.now c.in-Some.rest.now c.loop-place.place
    (legs_view c.loop-place.legs) (legs_view c.grow.new.self) c.index-rest-place.result c.in-Some.ensures.cases.0
    c.requires.valid c.loop-place-test.true c.index-rest-place.is c.loop-place.invariant
    (some ∙ ap (λ (r : List ℕ). with_route c.args.topology.now (legs_view c.loop-place.legs) r)
    c.deref-in-loop-place.ensures.value)
