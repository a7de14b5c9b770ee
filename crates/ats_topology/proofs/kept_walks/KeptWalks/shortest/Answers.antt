use Rattle.std.proofs.Common.{◌∙◌, sym, ap, subst, List, ℕ, Option}
use Rattle.std.specs.Option.{option_copied}
use Rattle.std.proofs.lemmas.Result.{IfOk-weaker}
use Rattle.ats_topology.specs.Topology.{IsTopology}
use Rattle.ats_topology.specs.KeptWalks.{AreDistancesTo}
use Rattle.ats_topology.proofs.Searches.{read_kept}
use Rattle.ats_topology.proofs.kept_walks.KeptWalks.shortest.Goals as goal

pub shortest_by-requires-clause-exact : goal.shortest_by-requires-clause-exact
shortest_by-requires-clause-exact c =
    let kept = c.in_ok-search.ensures.kept in
    let found = read_kept c.args.topology.now c.search.new.self c.args.b c.index.result.now kept c.requires.b
    c.index.ensures ∙ sym c.as_ref.ensures.value ∙ ap option_copied c.unwrap-distances.ensures in
    subst (λ (ds : List (Option ℕ)). AreDistancesTo c.args.topology.now c.args.b ds) (sym c.deref.ensures.value)
    (kept.each c.args.b c.unwrap-distances.result.now found)

pub returns-clause-rules : goal.returns-clause-rules
returns-clause-rules c =
    IfOk-weaker c.shortest_by.result _ (λ _. IsTopology c.args.topology.now)
    (λ found ports. c.shortest_by.ensures.rules) c.shortest_by.ensures.ports
