use Rattle.std.proofs.Common.{sym, ap, ◌∙◌, arith, Some}
use Rattle.ats_topology.specs.Faults.{is_badly_linked}
use Rattle.ats_topology.proofs.PositionLemmas.{position_from-some, position_from-none}
use Rattle.ats_topology.proofs.CountLemmas.{badly_linked}
use Rattle.ats_topology.proofs.stations.bad_station_place.Goals as goal

pub returns-then-is_badly_linked-clause-place : goal.returns-then-is_badly_linked-clause-place
returns-then-is_badly_linked-clause-place c =
    let bad = badly_linked c.args.nodes.now c.args.links.now c.args.counts.now c.loop-i.i c.index-nodes-i.result
    c.is_badly_linked.result c.loop-i-test.true c.index-nodes-i.is c.requires c.is_badly_linked.ensures in
    sym (position_from-some (is_badly_linked c.args.links.now) 0 c.args.nodes.now c.loop-i.i c.index-nodes-i.result
    c.loop-i.invariant c.loop-i-test.true (bad ∙ c.if-is_badly_linked.true) ∙ ap Some (omega arith))

pub loop-i-preserved : goal.loop-i-preserved
loop-i-preserved c =
    let bad = badly_linked c.args.nodes.now c.args.links.now c.args.counts.now c.loop-i.i c.index-nodes-i.result
    c.is_badly_linked.result c.loop-i-test.true c.index-nodes-i.is c.requires c.is_badly_linked.ensures in
    position_from-none (is_badly_linked c.args.links.now) 0 c.args.nodes.now c.loop-i.i c.index-nodes-i.result
    c.loop-i.invariant c.loop-i-test.true (bad ∙ c.if-is_badly_linked.false)
