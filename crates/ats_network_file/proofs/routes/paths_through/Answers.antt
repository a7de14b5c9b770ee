use Rattle.std.proofs.Common.{◌≡◌, ◌+◌, ◌∷◌, true, List, ℕ, Some, map, drop, option_map, sym, ap, ◌∙◌, arith}
use Rattle.std.proofs.Common.{rules}
use Rattle.std.specs.Global.{Vec}
use Rattle.std.proofs.lemmas.List.{drop_more}
use Rattle.ats_network_toml.specs.Document as file
use Rattle.ats_network_file.specs.Routes.{is_valid, paths_of, ports_of}
use Rattle.ats_network_file.proofs.Trees.{path_step, valid_step}
use Rattle.ats_network_file.proofs.routes.paths_through.Goals as goal

abbrev names_in : List (Vec (List ℕ)) → List file.DeclaredRoute
names_in paths = map file.path (map (λ (names : Vec (List ℕ)). names.items) paths)

pub loop-names-preserved : goal.loop-names-preserved
loop-names-preserved c =
    let rest : List file.DeclaredRoute = names_in (drop (c.loop-names.names-index + 1) c.args.paths.now) in
    let route : file.DeclaredRoute = file.path c.names-item.result.items in
    let cut : names_in (drop c.loop-names.names-index c.args.paths.now) ≡ route ∷ rest =
    ap names_in (drop_more c.args.paths.now c.loop-names.names-index c.names-item.result
    (omega (arith, c.loop-names-test.true)))
    ∙ ap (λ (v : Vec (List ℕ)). file.path v.items ∷ rest) (sym c.names-item.is) in
    let is : ports_of c.args.topology.now route ≡ Some c.in-Some.ports.items =
    ap (λ (ns : List (List ℕ)). ports_of c.args.topology.now (file.path ns)) (sym c.deref.ensures.value)
    ∙ sym c.in_ok-ports.ensures.value ∙ ap (option_map (λ (path : Vec ℕ). path.items)) c.in-Some.is in
    let passed : c.is_valid.result ≡ true = search rules in
    let valid : is_valid c.args.topology.now c.in-Some.ports.items ≡ true =
    ap (is_valid c.args.topology.now) (sym c.deref-in-loop-names.ensures.value) ∙ sym c.is_valid.ensures.test
    ∙ passed in
    record {
      found = path_step c.args.topology.now c.loop-names.found.items c.push.new.self.items c.in-Some.ports
          (names_in (drop c.loop-names.names-index c.args.paths.now)) rest route
          (paths_of c.args.topology.now (names_in c.args.paths.now))
          c.in_ok-push.ensures.items cut is valid c.loop-names.invariant.found;
      valid = valid_step c.args.topology.now c.loop-names.found.items c.push.new.self.items c.in-Some.ports
          c.in_ok-push.ensures.items valid c.loop-names.invariant.valid;
      kept = c.ports_through.ensures.kept;
    }
