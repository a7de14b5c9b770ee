use Rattle.std.proofs.Common.{arith}
use Rattle.ats_run_records.proofs.AllCounts.{records-open, view-opened}
use Rattle.ats_run_records.proofs.whole.Whole.open.Goals as goal

pub invariant_of-result : goal.invariant_of-result
invariant_of-result c =
    records-open c.args.net.now c.args.releases.now _ _ _ _ _ c.topology-rules.ensures.rules c.requires.releases
    c.requires.few_ports c.in_ok-rows.ensures.journeys c.in_ok-rows.ensures.spans c.in_ok-rows.ensures.frames
    c.in_ok-firsts.ensures.firsts (omega (arith, c.in_ok-hops.ensures.len, c.in_ok-rows.ensures.room))

pub returns : goal.returns
returns c =
    view-opened c.args.net.now c.args.releases.now _ _ _ _ _ c.topology-rules.ensures.rules c.requires.releases
    c.requires.few_ports c.in_ok-rows.ensures.journeys c.in_ok-rows.ensures.spans c.in_ok-rows.ensures.frames
    c.in_ok-firsts.ensures.firsts
