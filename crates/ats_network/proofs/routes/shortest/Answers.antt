use Rattle.ats_network.proofs.RouteLemmas.{result_is}
use Rattle.ats_network.proofs.routes.shortest.Goals as goal

pub returns : goal.returns
returns c =
    result_is c.args.topology.now c.args.a c.args.b c.shortest.result c.shortest.ensures.rules
    c.requires.a c.requires.b
    c.shortest.ensures.walk c.shortest.ensures.none
