use Rattle.std.proofs.Common.{◌≡◌, ◌+◌, ◌∷◌, true, List, ℕ, Some, map, drop, option_map, sym, ap, ◌∙◌, arith}
use Rattle.std.proofs.Common.{rules}
use Rattle.std.specs.Global.{Vec}
use Rattle.std.proofs.lemmas.List.{drop_more}
use Rattle.ats_network_toml.specs.Document as file
use Rattle.ats_network_file.specs.Routes.{is_valid, paths_of, ports_of}
use Rattle.ats_network_file.proofs.Trees.{path_step, valid_step}
use Rattle.ats_network_file.proofs.routes.paths_between.Goals as goal

pub loop-to-preserved : goal.loop-to-preserved
loop-to-preserved c =
    let rest : List file.DeclaredRoute =
    map (file.ends c.args.from.now) (drop (c.loop-to.to-index + 1) c.args.listeners.now) in
    let route : file.DeclaredRoute = file.ends c.args.from.now c.to-item.result in
    let cut : map (file.ends c.args.from.now) (drop c.loop-to.to-index c.args.listeners.now) ≡ route ∷ rest =
    ap (map (file.ends c.args.from.now)) (drop_more c.args.listeners.now c.loop-to.to-index c.to-item.result
    (omega (arith, c.loop-to-test.true)))
    ∙ ap (λ (l : List ℕ). file.ends c.args.from.now l ∷ rest) (sym c.to-item.is) in
    let is : ports_of c.args.topology.now route ≡ Some c.in-Some.ports.items =
    sym c.in_ok-ports.ensures.value ∙ ap (option_map (λ (path : Vec ℕ). path.items)) c.in-Some.is in
    let passed : c.is_valid.result ≡ true = search rules in
    let valid : is_valid c.args.topology.now c.in-Some.ports.items ≡ true =
    ap (is_valid c.args.topology.now) (sym c.deref.ensures.value) ∙ sym c.is_valid.ensures.test ∙ passed in
    record {
      found = path_step c.args.topology.now c.loop-to.found.items c.push.new.self.items c.in-Some.ports
          (map (file.ends c.args.from.now) (drop c.loop-to.to-index c.args.listeners.now)) rest route
          (paths_of c.args.topology.now (map (file.ends c.args.from.now) c.args.listeners.now))
          c.in_ok-push.ensures.items cut is valid c.loop-to.invariant.found;
      valid = valid_step c.args.topology.now c.loop-to.found.items c.push.new.self.items c.in-Some.ports
          c.in_ok-push.ensures.items valid c.loop-to.invariant.valid;
      kept = c.ports_between.ensures.kept;
    }
