use Rattle.std.proofs.Common.{rules, arith}
use Rattle.std.proofs.lemmas.Grind.{common_steps}
use Rattle.ats_run_tests.proofs.Replayed.{sent_goes}
use Rattle.ats_run_tests.proofs.replays.sent.Goals as goal

pub returns : goal.returns
returns g c = sent_goes c.args.network.now c.new.result c.expect-rows.result.items c.expect-spans.result.items
    c.expect-firsts.result.items c.expect-hops.result.items c.new.ensures (grind (arith, common_steps)) (search rules)
    (search rules) (grind (arith, common_steps)) c.requires.sender c.requires.one_listener c.requires.path
