use Rattle.std.proofs.Common.{rules, arith}
use Rattle.std.proofs.lemmas.Grind.{common_steps}
use Rattle.ats_run_tests.proofs.Replayed.{discarded_go}
use Rattle.ats_run_tests.proofs.replays.discarded.Goals as goal

pub returns : goal.returns
returns g c = discarded_go c.args.network.now c.new-3.result c.expect-rows.result.items c.expect-spans.result.items
    c.expect-firsts.result.items c.expect-hops.result.items c.new-3.ensures (grind (arith, common_steps)) (search rules)
    (search rules) (grind (arith, common_steps)) c.requires.sender c.requires.one_listener c.requires.path
