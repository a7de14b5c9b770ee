use Rattle.std.proofs.Common.{ℕ, List, sym, subst}
use Rattle.ats_streams.specs.Stream.{DeclaredStream}
use Rattle.ats_streams.specs.declared.branch.Branch.{Branch}
use Rattle.ats_admission_state.specs.Routes.{IsRoute, RouteState, places_along}
use Rattle.ats_admission_state.proofs.Bounds.{route_rules}
use Rattle.ats_admission_state.proofs.routes.Route.with_tree.Goals as goal

pub holding-requires-clause-routes : goal.holding-requires-clause-routes
holding-requires-clause-routes c =
    let s : DeclaredStream = c.args.stream.now in
    let state : List ℕ → List Branch → ℕ → RouteState =
    (λ places branches deadline. record { places = places; branches = branches; deadline = deadline }) in
    subst (λ (places : List ℕ). IsRoute (state places c.args.tree.value.branches.items c.deadline.result.0))
    (sym c.requires.places)
    (subst (λ (branches : List Branch).
    IsRoute (state (places_along s.ports s.classes) branches c.deadline.result.0)) (sym c.requires.branches)
    (subst (λ (deadline : ℕ). IsRoute (state (places_along s.ports s.classes) s.branches deadline))
    (sym c.deadline.ensures.value) (route_rules s c.requires.rules)))
