use Rattle.std.proofs.Common.{◌≡◌, ℕ, List, ◌∷◌, Option, Some, option_and_then, option_map, sym, ap, subst, ◌∙◌}
use Rattle.std.specs.Global.{Vec}
use Rattle.std.specs.Prelude.{IfOk}
use Rattle.ats_num.specs.Places.{place_of}
use Rattle.ats_topology.specs.Node.{names_of}
use Rattle.ats_network_toml.specs.Document as file
use Rattle.ats_network_file.specs.Routes.{ports_of, ports_onward}
use Rattle.ats_network_file.proofs.routes.ports_through.Goals as goal

pub returns-clause-value : goal.returns-clause-value
returns-clause-value c =
    let names : c.args.names.now ≡ c.in-Some.first.now ∷ c.in-Some.rest.now = c.in-Some.ensures.cases.0 in
    let place : place_of c.in-Some.first.now (names_of c.args.topology.now.nodes) ≡ Some c.in-Some-node_named.from =
    sym c.node_named.ensures.number ∙ c.in-Some-node_named.is in
    let through : ports_of c.args.topology.now (file.path c.args.names.now)
    ≡ ports_onward c.args.topology.now c.in-Some-node_named.from c.in-Some.rest.now =
    ap (λ (given : List (List ℕ)). ports_of c.args.topology.now (file.path given)) names
    ∙ ap (option_and_then (λ a. ports_onward c.args.topology.now a c.in-Some.rest.now)) place in
    subst (λ (ports : Option (List ℕ)).
    IfOk c.ports_onward.result (λ found. option_map (λ (path : Vec ℕ). path.items) found ≡ ports)) (sym through)
    c.ports_onward.ensures.value
