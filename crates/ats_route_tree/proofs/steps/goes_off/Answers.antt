use Rattle.std.proofs.Common.{◌≡◌, List, ℕ, take, sym, ap, ◌∙◌, arith}
use Rattle.std.specs.Str.{bytes_eq}
use Rattle.ats_streams.specs.Branches.{leg_at, routes_of}
use Rattle.ats_route_tree.proofs.Counts.{leg_inside, off_is, route_at_leg}
use Rattle.ats_route_tree.proofs.steps.goes_off.Goals as goal

pub bounds-routes-leg : goal.bounds-routes-leg
bounds-routes-leg c = leg_inside c.args.routes.now c.args.numbers.now c.args.branches.now c.args.branch.leg
    c.requires.routes c.requires.leg

pub returns-then-begins_alike : goal.returns-then-begins_alike
returns-then-begins_alike c =
    let other : leg_at (routes_of c.args.numbers.now c.args.branches.now) c.args.branch.leg
    ≡ c.index-routes-leg.result.items =
    route_at_leg c.args.routes.now (routes_of c.args.numbers.now c.args.branches.now) c.args.branch.leg
    c.index-routes-leg.result c.requires.routes
    (leg_inside c.args.routes.now c.args.numbers.now c.args.branches.now c.args.branch.leg c.requires.routes
    c.requires.leg) c.index-routes-leg.is in
    off_is (record { ports = c.args.numbers.now; branches = c.args.branches.now }) c.args.route.now c.args.count
    c.args.branch c.requires.some.0 (omega (arith, c.if-count-route.false))
    (omega (arith, c.if-branch-ports_in.false, c.ports_in.ensures))
    (ap (λ (l : List ℕ). bytes_eq (take c.args.count c.args.route.now) (take c.args.count l))
    (other ∙ sym c.deref.ensures.value) ∙ sym c.begins_alike.ensures ∙ c.if-begins_alike.true)
