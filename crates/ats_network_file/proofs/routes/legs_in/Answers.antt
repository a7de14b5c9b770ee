use Rattle.std.proofs.Common.{◌≡◌, List, ℕ, true, false, Option, Some, None, option_map, refl, sym, ap, subst}
use Rattle.std.proofs.Common.{◌∙◌, rules}
use Rattle.std.specs.Global.{Vec}
use Rattle.std.specs.Prelude.{IfSome}
use Rattle.ats_topology.specs.Topology.{DeclaredTopology}
use Rattle.ats_network_toml.specs.Views.{routes_view}
use Rattle.ats_route_tree.specs.Legs.{HaveRoutes}
use Rattle.ats_route_tree.specs.LegsView.{legs_view, paths_view, routes_in}
use Rattle.ats_route_tree.specs.Steps.{legs_found}
use Rattle.ats_route_tree.specs.declared.legs.Legs.{Legs}
use Rattle.ats_network_file.specs.Routes.{may_declare, paths_of}
use Rattle.ats_network_file.proofs.Trees.{legs_given, legs_settled}
use Rattle.ats_network_file.proofs.routes.legs_in.Goals as goal

-- the legs that were found have the routes that were asked
have_some : (topology : DeclaredTopology) (paths found : List (Vec ℕ)) (o : Option Legs) (legs : Legs)
    → o ≡ Some legs → paths ≡ found → IfSome o (λ l. HaveRoutes topology (routes_in paths) (legs_view l))
    → HaveRoutes topology (routes_in found) (legs_view legs)
have_some topology paths found o legs is same have =
    subst (λ (ps : List (Vec ℕ)). HaveRoutes topology (routes_in ps) (legs_view legs)) same
    (subst (λ (x : Option Legs). IfSome x (λ l. HaveRoutes topology (routes_in paths) (legs_view l))) is have)

pub returns-in_default-clause-value : goal.returns-in_default-clause-value
returns-in_default-clause-value c =
    let none : None ≡ paths_of c.args.topology.now (routes_view c.args.routes.now) = search rules in
    legs_given c.args.format c.args.topology.now c.args.place (routes_view c.args.routes.now) None None (sym none) refl

pub returns-in_default-2-clause-value : goal.returns-in_default-2-clause-value
returns-in_default-2-clause-value c =
    legs_given c.args.format c.args.topology.now c.args.place (routes_view c.args.routes.now)
    (Some (paths_view c.in-Some.paths)) None
    (sym c.in_ok-paths.ensures.value ∙ ap (option_map paths_view) c.in-Some.is)
    (ap (λ (rs : List (Vec ℕ)). legs_found c.args.topology.now (routes_in rs)) (sym c.deref.ensures.value)
    ∙ sym c.in_ok-legs.ensures.value ∙ ap (option_map legs_view) c.in_default-2.is)

pub returns-then-not-may_declare-clause-value : goal.returns-then-not-may_declare-clause-value
returns-then-not-may_declare-clause-value c =
    legs_settled c.args.format c.args.topology.now c.args.place (routes_view c.args.routes.now)
    (paths_view c.in-Some.paths) (legs_view c.in-Some-2.legs) false
    (sym c.in_ok-paths.ensures.value ∙ ap (option_map paths_view) c.in-Some.is)
    (ap (λ (rs : List (Vec ℕ)). legs_found c.args.topology.now (routes_in rs)) (sym c.deref.ensures.value)
    ∙ sym c.in_ok-legs.ensures.value ∙ ap (option_map legs_view) c.in-Some-2.is)
    (have_some c.args.topology.now c.deref.result.now c.in-Some.paths.items c.in_ok-legs.field-0 c.in-Some-2.legs
    c.in-Some-2.is c.deref.ensures.value c.in_ok-legs.ensures.have)
    (ap (λ (rs : List (Vec ℕ)). may_declare c.args.format c.args.topology.now (routes_in rs))
    (sym c.deref-2.ensures.value) ∙ sym c.may_declare.ensures ∙ c.if-not-may_declare.true)

pub returns-clause-value : goal.returns-clause-value
returns-clause-value c =
    legs_settled c.args.format c.args.topology.now c.args.place (routes_view c.args.routes.now)
    (paths_view c.in-Some.paths) (legs_view c.in-Some-2.legs) true
    (sym c.in_ok-paths.ensures.value ∙ ap (option_map paths_view) c.in-Some.is)
    (ap (λ (rs : List (Vec ℕ)). legs_found c.args.topology.now (routes_in rs)) (sym c.deref.ensures.value)
    ∙ sym c.in_ok-legs.ensures.value ∙ ap (option_map legs_view) c.in-Some-2.is)
    (have_some c.args.topology.now c.deref.result.now c.in-Some.paths.items c.in_ok-legs.field-0 c.in-Some-2.legs
    c.in-Some-2.is c.deref.ensures.value c.in_ok-legs.ensures.have)
    (ap (λ (rs : List (Vec ℕ)). may_declare c.args.format c.args.topology.now (routes_in rs))
    (sym c.deref-2.ensures.value) ∙ sym c.may_declare.ensures ∙ c.if-not-may_declare.false)
