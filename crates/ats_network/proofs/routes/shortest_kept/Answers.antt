use Rattle.ats_network.proofs.RouteLemmas.{ok_result_is}
use Rattle.ats_network.proofs.routes.shortest_kept.Goals as goal

pub returns-clause-value : goal.returns-clause-value
returns-clause-value c =
    ok_result_is c.args.topology.now c.args.a c.args.b c.shortest.result c.shortest.ensures.rules
    c.requires.a c.requires.b
    c.shortest.ensures.walk c.shortest.ensures.none
